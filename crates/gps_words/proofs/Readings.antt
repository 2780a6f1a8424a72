-- Words that clap takes, and words that it refuses, for a command built as its definition says.
use Rattle.std.proofs.Common.{◌≡◌, ◌&&◌, Bool, true, false, List, [], ◌∷◌, Option, Some, None, Ok, Err, inl, inr, cond, ap, sym, ◌∙◌, refl}
use Rattle.std.specs.Option.{ok_or}
use Rattle.clap.specs.Faults.{is_simple_and_free}
use Rattle.clap.specs.Kinds.{HasKind, Kinds}
use Rattle.clap.specs.Matches.{found_of}
use Rattle.clap.specs.Simple.{App, HasMatchesOf, is_simple, matches_of}
use Rattle.clap.specs.Values.{kind_of}
use Rattle.clap.specs.Walk.{Row, Text, rows_of}
use Rattle.clap.specs.declared.error.Error.{Error}
use Rattle.clap.specs.declared.error.kind.ErrorKind.TheVariants as error
use Rattle.clap.specs.declared.parser.matches.ArgMatches.{ArgMatches}
use Rattle.gps_words.specs.Forms.{app_for}
use Rattle.gps_words.specs.Options.{are_taken, is_no_kind, read_by}
use Rattle.gps_words.specs.declared.choice.Kind.{Kind}
use Rattle.gps_words.specs.declared.choice.Kind.TheVariants as kind

first_true : (a b : Bool) → (a && b) ≡ true → a ≡ true
first_true true b e = refl
first_true false b e = e

each_simple : (k : Kind) → is_simple_and_free (app_for k) ≡ true
unfolding app_for
each_simple kind.Decode = refl
each_simple kind.Pseudo = refl
each_simple kind.Replay = refl
each_simple kind.Generate = refl
each_simple kind.Lines = refl

pub form_is_simple : (k : Kind) (app : App) → app ≡ app_for k → is_simple_and_free app ≡ true
form_is_simple k app is = ap (λ a. is_simple_and_free a) is ∙ each_simple k

pub rows_in : (app : App) (words : List Text) (m : ArgMatches) → is_simple_and_free app ≡ true
    → HasMatchesOf app words m → rows_of (found_of m) ≡ matches_of app words
rows_in app words m simple has = (has (first_true (is_simple app) _ simple)).0

pub kinds_found : (kinds : Kinds) (e : Error) → (kind_of e ≡ error.OutOfMemory → ⊥) → HasKind kinds e
    → is_no_kind kinds ≡ false
kinds_found [] e other has = elim has [ inl memory ↦ absurd (other memory) | inr among ↦ absurd among ]
kinds_found (k ∷ kinds) e other has = refl

chosen : {X : Type 0} (b : Bool) (x y : X) → b ≡ true → cond b x y ≡ x
chosen true x y e = refl
chosen false x y e = absurd (cc)

passed : {X : Type 0} (b : Bool) (x y : X) → b ≡ false → cond b x y ≡ y
passed true x y e = absurd (cc)
passed false x y e = refl

pub read_is : {X : Type 0} (wanted app : App) (read : List Row → Option X) (words : List Text) (rows : List Row)
    → app ≡ wanted → are_taken app words ≡ true → rows ≡ matches_of app words → read_by wanted read words ≡ read rows
unfolding read_by
read_is wanted app read words rows built taken are =
    ap (λ a. read_by a read words) (sym built) ∙ chosen (are_taken app words) _ _ taken ∙ ap read (sym are)

pub read_refused : {X : Type 0} (wanted app : App) (read : List Row → Option X) (words : List Text)
    → app ≡ wanted → are_taken app words ≡ false → read_by wanted read words ≡ None
unfolding read_by
read_refused wanted app read words built taken =
    ap (λ a. read_by a read words) (sym built) ∙ passed (are_taken app words) _ _ taken

pub some_of : {X F : Type 0} (o : Option X) (fault : F) (x : X) → Ok x ≡ ok_or o fault → o ≡ Some x
some_of None fault x e = absurd (cc)
some_of (Some y) fault x e = cc

pub none_of : {X F : Type 0} (o : Option X) (fault f : F) → Err f ≡ ok_or o fault → o ≡ None
none_of None fault f e = refl
none_of (Some y) fault f e = absurd (cc)
