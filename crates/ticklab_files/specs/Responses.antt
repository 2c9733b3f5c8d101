-- An answer goes to standard output, or something is told on standard error instead; never both.
use Rattle.std.specs.Prelude.{◌≡◌, ℕ, List, []}
use Rattle.ticklab_files.specs.declared.response.Response.{Response}

-- nothing is told, and what goes out has P
pub record Gives (number : ℕ) (P : List ℕ → Type 0) (response : Response) : Type 0 where
  pub status : response.status ≡ number
  pub quiet : response.told.items ≡ []
  pub out : P response.out.items

-- nothing goes out, and what is told has P
pub record Refuses (number : ℕ) (P : List ℕ → Type 0) (response : Response) : Type 0 where
  pub status : response.status ≡ number
  pub nothing : response.out.items ≡ []
  pub told : P response.told.items
