use Rattle.std.proofs.Common.{ℕ, ◌∙◌, List, Bor, take}
use Rattle.std.specs.Str.{bytes_eq}
use Rattle.language_questions.proofs.Scopes.{position_mapped}
use Rattle.language_questions.proofs.scope.Scope.number.Goals as goal

pub returns : goal.returns
returns c =
    c.number_among.ensures
    ∙ position_mapped (λ (name : Bor (List ℕ)). name.now) (λ (name : List ℕ). bytes_eq name c.args.letters.now) (take c.args.self.now.count c.args.self.now.names)
