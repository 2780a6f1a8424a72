-- How objects begin, and those that are always the same.
use Rattle.std.proofs.Common.{◌≡◌, ℕ, List, [], ◌∷◌, ◌++◌, refl, sym, ap, ◌∙◌, arith, codes}
use Rattle.std.specs.Fmt.{decimal}
use Rattle.gps_fixed.proofs.TextLaws.{decimal_one}
use Rattle.gps_report.specs.declared.policy.CommandFault.TheVariants as fault
use Rattle.json_line.specs.declared.names.Class.TheVariants as class
use Rattle.json_line.specs.declared.names.Key.TheVariants as key
use Rattle.json_line.specs.Json.{closing, member, quoted}
use Rattle.json_line.specs.Lines.{error, message, version}
use Rattle.json_line.specs.Names.{head_of, label_of, satellite_head}

pub satellite_begins : codes "{\"PRN\":" ≡ satellite_head
unfolding satellite_head
satellite_begins = refl

abbrev versioned : List ℕ → List ℕ → List ℕ
versioned major minor =
    head_of class.Version
    ++ member key.Release (quoted (codes "gpsrelay-1"))
    ++ member key.Rev (quoted (codes "1"))
    ++ member key.ProtoMajor major
    ++ member key.ProtoMinor minor
    ++ closing

pub version_is : codes "{\"class\":\"VERSION\",\"release\":\"gpsrelay-1\",\"rev\":\"1\",\"proto_major\":3,\"proto_minor\":1}" ≡ version
unfolding version head_of member label_of quoted
version_is = ap (λ major. versioned major (49 ∷ [])) (sym (decimal_one 3 (omega arith))) ∙ ap (versioned (decimal 3)) (sym (decimal_one 1 (omega arith)))

pub unknown_is : codes "{\"class\":\"ERROR\",\"message\":\"Unrecognized request\"}" ≡ error fault.Unknown
unfolding error head_of member label_of quoted message
unknown_is = refl

pub bad_json_is : codes "{\"class\":\"ERROR\",\"message\":\"Malformed JSON\"}" ≡ error fault.BadJson
unfolding error head_of member label_of quoted message
bad_json_is = refl

pub bad_watch_is : codes "{\"class\":\"ERROR\",\"message\":\"Invalid WATCH\"}" ≡ error fault.BadWatch
unfolding error head_of member label_of quoted message
bad_watch_is = refl

pub too_long_is : codes "{\"class\":\"ERROR\",\"message\":\"Request too long\"}" ≡ error fault.TooLong
unfolding error head_of member label_of quoted message
too_long_is = refl
