-- A NAV-EOE behind bytes of which nothing is open.
use Rattle.std.proofs.Common.{◌≡◌, ◌++◌, ◌∷◌, [], List, ap, refl, ◌∙◌}
use Rattle.gps_fixed.specs.Moment.{Moment}
use Rattle.ubx_frame.specs.Scan.{shape_of as frame_shape, shape_behind_first, shape_behind_sync, shape_of_length, is_right}
use Rattle.ubx_frame.specs.Checksum.{sums_of}
use Rattle.nmea_frame.specs.Scan.{shape_of as sentence_shape}
use Rattle.packet_cut.specs.Heads.{head_of}
use Rattle.packet_cut.specs.Packets.{Stamped, stamped, packets_of, rest_of, parts_from, rest_from}
use Rattle.packet_cut.proofs.StreamLaws.{packets_gain, rest_gain}
use Rattle.cycle_gap.specs.End.{end_of_epoch, end_packet}

pub packets_split : (front back : List Stamped) → rest_of front ≡ [] → packets_of (front ++ back) ≡ packets_of front ++ packets_of back
packets_split front back none = packets_gain front back ∙ ap (λ t. packets_of front ++ packets_of (t ++ back)) none

pub rest_split : (front back : List Stamped) → rest_of front ≡ [] → rest_of (front ++ back) ≡ rest_of back
rest_split front back none = rest_gain front back ∙ ap (λ t. rest_of (t ++ back)) none

pub end_alone : (at : Moment) → packets_of (stamped at end_of_epoch) ≡ end_packet at ∷ []
unfolding parts_from head_of frame_shape shape_behind_first shape_behind_sync shape_of_length is_right sentence_shape sums_of
end_alone at = refl

pub end_rests : (at : Moment) → rest_of (stamped at end_of_epoch) ≡ []
unfolding rest_from head_of frame_shape shape_behind_first shape_behind_sync shape_of_length is_right sentence_shape sums_of
end_rests at = refl

pub end_between : (front back : List Stamped) (at : Moment) → rest_of front ≡ []
    → packets_of (front ++ (stamped at end_of_epoch ++ back)) ≡ packets_of front ++ end_packet at ∷ packets_of back
end_between front back at none = packets_split front (stamped at end_of_epoch ++ back) none
    ∙ ap (λ t. packets_of front ++ t) (packets_split (stamped at end_of_epoch) back (end_rests at))
    ∙ ap (λ t. packets_of front ++ (t ++ packets_of back)) (end_alone at)

pub rest_between : (front back : List Stamped) (at : Moment) → rest_of front ≡ [] → rest_of (front ++ (stamped at end_of_epoch ++ back)) ≡ rest_of back
rest_between front back at none = rest_split front (stamped at end_of_epoch ++ back) none ∙ rest_split (stamped at end_of_epoch) back (end_rests at)
