-- What is told to `clap` of a command that is described as data.
use Rattle.std.specs.Prelude.{List, [], ◌∷◌, length}
use Rattle.clap.specs.Walk.{Rule}
use Rattle.clap.specs.Simple.{App, new_app, with_rule}
use Rattle.ticklab_line.specs.CommandLine.{flag_rule, further_rule, number_rule, number_word_rule, perhaps_number_rule, repeated_rule, text_rule, two_numbers_rule, with_app, word_rule, words_rule}
use Rattle.ticklab_line.specs.declared.described.Description.{Description}
use Rattle.ticklab_line.specs.declared.described.Word.{Word}
use Rattle.ticklab_line.specs.declared.described.Word.TheVariants as word

abbrev pub rule_for : Word → Rule
rule_for (word.One name value help) = word_rule name.now
rule_for (word.Several name value help) = words_rule name.now
rule_for (word.Further name value help) = further_rule name.now
rule_for (word.NumberWord name value parser help) = number_word_rule name.now parser
rule_for (word.Flag name help) = flag_rule name.now
rule_for (word.Text name value help) = text_rule name.now
rule_for (word.Repeated name value help) = repeated_rule name.now
rule_for (word.Number name value parser help) = number_rule name.now parser
rule_for (word.PerhapsNumber name value parser help) = perhaps_number_rule name.now parser
rule_for (word.TwoNumbers name values parser help) = two_numbers_rule name.now (length values.now) parser

-- a command with these words behind its own
abbrev pub with_words : App → List Word → App
with_words app [] = app
with_words app (w ∷ words) = with_words (with_rule app (rule_for w)) words

abbrev pub app_for : Description → App
app_for description = with_words (new_app description.name.now) description.words.now

-- a command line with these commands behind its own
abbrev pub with_commands : App → List Description → App
with_commands above [] = above
with_commands above (description ∷ descriptions) = with_commands (with_app above (app_for description)) descriptions
