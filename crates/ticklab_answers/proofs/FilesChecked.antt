-- Files that are checked for people, of which lines are written before the answer, and as JSON, of which none are.
use Rattle.std.proofs.Common.{◌≡◌, ℕ, List, [], ap, refl, subst, sym}
use Rattle.searches_states.specs.declared.limits.Limits.{Limits}
use Rattle.ticklab_check.specs.Wording.{files_lines}
use Rattle.ticklab_check.specs.declared.checked.Timed.{Timed}
use Rattle.ticklab_check.specs.declared.source.Source.{Source}
use Rattle.ticklab_answers.specs.Checks.{AreNamed, AreRead, ChecksAll, written_before}
use Rattle.ticklab_answers.specs.Hearing.{IsToldOf, WritesAll, WritesFile}
use Rattle.ticklab_answers.specs.Serving.{Known}
use Rattle.ticklab_answers.specs.declared.host.Host.{Host}
use Rattle.ticklab_files.specs.Reading.{ListsOf, ReadsOf, ReadsInputOf}
use Rattle.ticklab_files.specs.declared.form.Form.{Form}
use Rattle.ticklab_files.specs.declared.form.Form.TheVariants.{Text, Json}
use Rattle.ticklab_files.specs.declared.response.Response.{Response}
use Rattle.ticklab_answers.proofs.Heard.{all_written, writes_nothing}

-- a host that has read files
abbrev pub having_read : {F O T : Type 0} → Host F O T → F → Host F O T
having_read host files = record { version = host.version; files = files; out = host.out; err = host.err; colours = host.colours }

module _ {F O T : Type 0} (contents : O → Known) (Reads : ReadsOf F) (ReadsInput : ReadsInputOf F) (Lists : ListsOf F) (host : Host F O T)
    (listed read : F) (paths names : List (List ℕ)) (sources : List Source) (limits : Limits) (at_once : ℕ) (form : Form)
    (named : AreNamed Lists host.files paths names listed) (are_read : AreRead Reads ReadsInput listed names sources read) (x : Response) where
  abbrev Answers : Host F O T → Type 0
  Answers new = (written : List (List ℕ)) × ChecksAll Reads ReadsInput Lists host.files new.files paths limits at_once form written x × WritesAll contents host new written

  pub told_people : (new : Host F O T) → form ≡ Text → IsToldOf (WritesFile contents) (having_read host read) new at_once sources limits form x → Answers new
  told_people new people told =
      let files = told.findings.files.items in
      let all = all_written contents (having_read host read) new sources files told.heard in (
        files_lines sources files,
        record {
          names = names;
          listed = listed;
          named = named;
          sources = sources;
          read = subst (AreRead Reads ReadsInput listed names sources) (sym all.1) are_read;
          told = record {
            findings = told.findings;
            are = told.are;
            before = sym (ap (λ (k : Form). written_before k sources told.findings) people);
            gives = told.gives;
          };
        },
        record { version = all.0.version; err = all.0.err; colours = all.0.colours; out = all.0.out },
      )

  pub told_as_data : {L : Type 0} (hears : L → Source → Timed → L → Type 0) (before after : L) → form ≡ Json
      → IsToldOf hears before after at_once sources limits form x → Answers (having_read host read)
  told_as_data hears before after json told = (
    [],
    record {
      names = names;
      listed = listed;
      named = named;
      sources = sources;
      read = are_read;
      told = record {
        findings = told.findings;
        are = told.are;
        before = sym (ap (λ (k : Form). written_before k sources told.findings) json);
        gives = told.gives;
      };
    },
    writes_nothing contents host (having_read host read) refl refl refl refl,
  )
