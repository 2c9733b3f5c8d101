-- What stands against a call, as the number that it answers.
use Rattle.std.specs.Prelude.{◌≡◌, ◌↔◌, ℕ, ◌<◌, List, All}
use Rattle.ticket_word.specs.Standing.{IsCount, IsTicketWord}

-- each of these is one of `n` processes
abbrev pub AreProcesses : ℕ → List ℕ → Type 0
AreProcesses n processes = All (λ p. p < n) processes

-- The number `fault` tells whether `bits` is a word of `n` processes, and these are of them. It is 0 where
-- nothing stands against it; else it has the first of what does.
pub record Tells (n bits : ℕ) (processes : List ℕ) (fault : ℕ) : Type 0 where
  pub nothing : (fault ≡ 0) ↔ (AreProcesses n processes × IsTicketWord n bits)
  pub count : (fault ≡ 1) ↔ (¬ IsCount n)
  pub process : (fault ≡ 2) ↔ (IsCount n × ¬ AreProcesses n processes)
  pub word : (fault ≡ 3) ↔ (IsCount n × AreProcesses n processes × ¬ IsTicketWord n bits)
