-- From what is known of a word to the cause of a refusal that names it.
use Rattle.std.proofs.Common.{◌≡◌, ℕ, true, false, not, inl, inr, List, [], ◌∷◌, Option, Some, None, MatchOption, IfSome, slice_get, refl, subst}
use Rattle.clap.specs.Walk.{Text}
use Rattle.gps_help.specs.Causes.{HasCauseAt, IsCauseOf, IsCauseOfLine, IsCauseWithin, Names}
use Rattle.gps_help.specs.DeviceCauses.{IsCauseOfDevice, IsCauseOfParts}
use Rattle.gps_help.specs.Options.{takes}
use Rattle.gps_help.specs.Places.{option_before, passes, stop_of, value_of}
use Rattle.gps_help.specs.Refusals.{command_in, command_named}
use Rattle.gps_help.specs.declared.cause.Cause.{Cause}
use Rattle.gps_help.specs.declared.cause.Cause.TheVariants.{BadValue, NoCommand, Other}
use Rattle.gps_help.specs.declared.cause.DeviceCause.{DeviceCause}
use Rattle.gps_help.specs.declared.cause.DeviceCause.TheVariants.{NoName}
use Rattle.gps_help.specs.declared.command_name.CommandName.{CommandName}
use Rattle.gps_help.specs.declared.option_name.OptionName.{OptionName}

pub bad_within : (command : CommandName) (words : List Text) (stop : Option ℕ) (at : ℕ) (word : Text) (option : OptionName)
    → Names command stop at word option → passes (λ value. not (takes option value)) (value_of word) ≡ true
    → IsCauseWithin command words stop at word (BadValue option)
unfolding IsCauseWithin
bad_within command words stop at word option names bad = inl (names, bad)

pub bad_after : (command : CommandName) (words : List Text) (stop : Option ℕ) (at : ℕ) (word : Text) (option : OptionName)
    → option_before command words stop at ≡ Some option → takes option word ≡ false
    → IsCauseWithin command words stop at word (BadValue option)
unfolding IsCauseWithin
bad_after command words stop at word option after bad = inr (after, bad)

pub of_word : (words : List Text) (command : Option CommandName) (at : ℕ) (word : Text) (cause : Cause)
    → Some word ≡ slice_get words at → IsCauseOf words command at word cause → HasCauseAt words command (Some at) cause
unfolding HasCauseAt
of_word words command at word cause here is = subst (λ o. MatchOption o ⊥ (λ w. IsCauseOf words command at w cause)) here is

pub of_words : (words : List Text) (command : CommandName) (stop : Option ℕ) (at : ℕ) (word : Text) (r : Option Cause)
    → Some word ≡ slice_get words at → stop ≡ stop_of words → IfSome r (λ cause. IsCauseWithin command words stop at word cause)
    → IfSome r (λ cause. HasCauseAt words (Some command) (Some at) cause)
of_words words command stop at word None here stopped is = tt
of_words words command stop at word (Some cause) here stopped is =
    of_word words (Some command) at word cause here (subst (λ s. IsCauseWithin command words s at word cause) stopped is)

pub of_line : (words : List Text) (command : Option CommandName) (cause : Cause) → IsCauseOfLine words command cause → HasCauseAt words command None cause
unfolding HasCauseAt
of_line words command cause is = is

pub of_other : (words : List Text) (command : Option CommandName) → HasCauseAt words command None Other
unfolding HasCauseAt IsCauseOfLine
of_other words command = tt

no_words : (words : List Text) → None ≡ slice_get words 0 → words ≡ []
no_words [] none = refl
no_words (word ∷ words) none = cc

pub of_none : (words : List Text) (command : Option CommandName) → None ≡ slice_get words 0 → HasCauseAt words command None NoCommand
unfolding HasCauseAt IsCauseOfLine
of_none words command none = no_words words none

pub first_named : (words : List Text) (word : Text) → Some word ≡ slice_get words 0 → command_in words ≡ None → command_named word ≡ None
first_named [] word first none = cc
first_named (other ∷ words) word first none =
    let same : other ≡ word = cc in
    subst (λ w. command_named w ≡ None) same none

pub of_parts : (words : List Text) (stop : Option ℕ) (at : ℕ) (o : Option (Text × Text)) (name place : Text) (r : Option DeviceCause)
    → Some (name, place) ≡ o → IfSome r (λ cause. IsCauseOfParts words stop at name place cause)
    → IfSome r (λ cause. IsCauseOfDevice words stop at o cause)
unfolding IsCauseOfDevice
of_parts words stop at o name place r parts is = subst (λ p. IfSome r (λ cause. IsCauseOfDevice words stop at p cause)) parts is

pub no_parts : (words : List Text) (stop : Option ℕ) (at : ℕ) (o : Option (Text × Text)) → None ≡ o → IsCauseOfDevice words stop at o NoName
unfolding IsCauseOfDevice
no_parts words stop at o none = subst (λ p. IsCauseOfDevice words stop at p NoName) none refl
