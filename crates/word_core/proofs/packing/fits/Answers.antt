use Rattle.std.proofs.Common.{◌*◌, ◌/◌, ◌%◌, ◌^◌}
use Rattle.std.proofs.lemmas.Bool.{eqb-true, eq-eqb}
use Rattle.word_core.proofs.Views.{below_from_shift, shift_gone}
use Rattle.word_core.proofs.packing.fits.Goals as goal

pub returns-then-bytes-n-eq0 : goal.returns-then-bytes-n-eq0
returns-then-bytes-n-eq0 c =
    let bits = c.args.bits in
    let n = c.args.n in (
      (λ none. record {
        bytes = below_from_shift (bits % 2 ^ 48) (8 * n) c.if-bytes-n-eq0.true;
        presences = below_from_shift (bits / 2 ^ 48) n (eqb-true _ 0 none);
      }),
      (λ fits. eq-eqb _ 0 (shift_gone (bits / 2 ^ 48) n fits.presences)),
    )
