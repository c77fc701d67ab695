-- What clap's typed getter reads of an option, and the name of a file that only `serve` has.
use Rattle.std.proofs.Common.{◌≡◌, ◌≢◌, ◌∙◌, ℕ, List, Option, Some, None, refl, sym, codes, Result, Ok, IfSome, Bor}
use Rattle.std.specs.Str.Parse.{digits_value, without_leading_plus}
use Rattle.std.proofs.lemmas.Option.{none-some}
use Rattle.clap.specs.Words.{one_text, ReadsOne}
use Rattle.clap.specs.declared.parser.matches.Found.{Found}
use Rattle.timer_program.specs.declared.arguments.Subcommand.{Subcommand}
use Rattle.timer_program.specs.Arguments.{IsNumberOf, IsValueAmong, IsPathOf, subcommand_name}

pub number_read : {E : Type 0} (gives : List ℕ → Result ℕ E → Type 0) (found : Found) (option : List ℕ) (result : Option ℕ)
    → (one_text found option ≡ None → result ≡ None)
    → ((text : List ℕ) → one_text found option ≡ Some text → ReadsOne gives text result)
    → ((text : List ℕ) (n : ℕ) → gives text (Ok n) → n ≡ digits_value 10 (without_leading_plus text))
    → IfSome result (λ n. IsNumberOf found option n)
number_read {E} gives found option None none some digits = tt
number_read {E} gives found option (Some n) none some digits = go (one_text found option) refl
  where
    go : (text : Option (List ℕ)) → one_text found option ≡ text → IsNumberOf found option n
    go None is = absurd (none-some n (sym (none is)))
    go (Some text) is = (text, is, digits text n (some text is))

-- a name that is given was found, so the subcommand is the one that has the option
pub path_given : {S : Type 0} (text : S → List ℕ) (arguments : List S) (front name : List ℕ) (subcommand : Subcommand)
    (found state : Option (Bor (List ℕ))) → name ≡ subcommand_name subcommand → IfSome found (λ _. name ≡ codes "serve")
    → IfSome state (λ _. found ≢ None) → IfSome state (λ n. IsValueAmong text arguments front n.now)
    → IfSome state (λ n. IsPathOf text arguments front n.now subcommand)
path_given text arguments front name subcommand found None is serve given among = tt
path_given text arguments front name subcommand None (Some n) is serve given among = absurd (given refl)
path_given text arguments front name subcommand (Some f) (Some n) is serve given among = (sym is ∙ serve, among)
