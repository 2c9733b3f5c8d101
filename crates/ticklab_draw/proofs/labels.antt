pub mod FrameLemmas
pub mod RankLemmas
