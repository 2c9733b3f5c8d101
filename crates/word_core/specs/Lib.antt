pub mod Stamps
pub mod Packed
pub mod Order
pub mod Agreement
pub mod Laws
pub mod History
pub mod HistoryLaws
pub mod prover
