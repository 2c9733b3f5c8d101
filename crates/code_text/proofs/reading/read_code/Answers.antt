use Rattle.std.proofs.Common.{◌≡◌, true, false, ◌++◌, inl, inr, ap, ◌∙◌, sym, subst, refl}
use Rattle.code_core.specs.Instructions.{AreSizes}
use Rattle.code_core.specs.Verified.{IsVerified}
use Rattle.code_text.specs.CodeText.{header_line, IsTextOf}
use Rattle.code_text.specs.prover.Guess.{guessed_version, guessed_sizes}
use Rattle.code_text.proofs.Guessing.{no_sizes, no_header}
use Rattle.code_text.proofs.Lines.{no_header_follows, header_follows, text_read}
use Rattle.code_text.proofs.reading.read_code.Goals as goal

pub returns-in_default-clause-err : goal.returns-in_default-clause-err
returns-in_default-clause-err c = λ _.
    let same = c.as_bytes-bytes.ensures.value in
    let some = c.in_default.ensures.some in
    inl (1, refl, inl (refl, no_sizes c.args.text.now (λ are. false_true (some.1 (subst AreSizes (ap guessed_sizes (sym same)) are)))))
  where
    false_true : false ≡ true → ⊥
    false_true e = (cc)

pub returns-in_default-2-clause-err : goal.returns-in_default-2-clause-err
returns-in_default-2-clause-err c = λ _.
    let text = c.args.text.now in
    let same = c.as_bytes-bytes.ensures.value in
    let version = c.guess_version-version.result in
    let header : header_line (guessed_version text) (guessed_sizes text) ≡ header_line version c.in-Some.sizes =
    ap (λ v. header_line v (guessed_sizes text)) (sym (c.guess_version-version.ensures.version ∙ ap guessed_version same))
    ∙ ap (header_line version) (sym (c.in-Some.ensures.sizes ∙ ap guessed_sizes same)) in
    inl (
      1,
      refl,
      inl (
        refl,
        no_header text (λ more is.
            no_header_follows version c.in-Some.sizes c.as_bytes-bytes.result.now c.in_ok-rest.field-0 c.in_default-2.not-Some c.in_ok-rest.ensures
            more (ap (λ x. x ++ more) (sym header) ∙ is ∙ sym same)),
      ),
    )

pub returns-clause-err : goal.returns-clause-err
returns-clause-err c = λ other.
    let sizes = c.in-Some.sizes in
    let instructions = c.in_ok-instructions.instructions.items in
    let version = c.guess_version-version.result in
    let bytes = c.as_bytes-bytes.result.now in
    let whole = header_follows version sizes bytes c.in_ok-rest.field-0 c.in-Some-2.rest c.in-Some-2.is c.in_ok-rest.ensures ∙ c.as_bytes-bytes.ensures.value in
    inr (
      record { sizes = sizes; instructions = instructions },
      text_read version sizes instructions c.in-Some-2.rest.now c.args.text.now c.guess_version-version.ensures.known
          (subst AreSizes (sym c.in-Some.ensures.sizes) (c.in-Some.ensures.some.0 refl)) c.in_ok-instructions.ensures.lines
          c.in_ok-instructions.ensures.ok whole,
      c.in-Err.ensures.refused other,
    )

pub returns-in-Ok-clause-ok : goal.returns-in-Ok-clause-ok
returns-in-Ok-clause-ok c =
    let text = c.args.text.now in
    let sizes = c.in-Some.sizes in
    let instructions = c.in_ok-instructions.instructions.items in
    let version = c.guess_version-version.result in
    let bytes = c.as_bytes-bytes.result.now in
    let whole = header_follows version sizes bytes c.in_ok-rest.field-0 c.in-Some-2.rest c.in-Some-2.is c.in_ok-rest.ensures ∙ c.as_bytes-bytes.ensures.value in
    subst (λ code. IsTextOf code text × IsVerified code.sizes code.instructions) (sym c.in-Ok.ensures.code) (
      text_read version sizes instructions c.in-Some-2.rest.now text c.guess_version-version.ensures.known
          (subst AreSizes (sym c.in-Some.ensures.sizes) (c.in-Some.ensures.some.0 refl)) c.in_ok-instructions.ensures.lines
          c.in_ok-instructions.ensures.ok whole,
      c.in-Ok.ensures.verified,
    )
