use Rattle.std.proofs.Common.{◌≡◌, ◌∙◌, List, [], ◌∷◌, ap, map, refl}
use Rattle.std.specs.Prelude.{find}
use Rattle.clap.specs.Facts.{Entry}
use Rattle.clap.specs.Matches.{found_of, ids_left}
use Rattle.clap.specs.Walk.{row_of}
use Rattle.ticklab_line.specs.Conflicts.{may_conflict}
use Rattle.ticklab_line.proofs.conflicts.threads_lead.Goals as goal

ids_of : (entries : List Entry) → map (λ (e : Entry). e.0.now) entries ≡ map (λ row. row.id) (map row_of entries)
ids_of [] = refl
ids_of (e ∷ entries) = ap (λ (ids : _). e.0.now ∷ ids) (ids_of entries)

pub loop-id-init : goal.loop-id-init
loop-id-init c =
    ap (find may_conflict) (ap ids_left c.into_iter-id-iterator.ensures.into_iter_gives
    ∙ c.ids-id-items.ensures ∙ ids_of (found_of c.args.given.now).entries.items)
