-- When two places are the same.
use Rattle.std.specs.Prelude.{Bool, false, nat_eq}
use Rattle.std.specs.Cmp.Lexicographic.{pointwise}
use Rattle.gps_world.specs.declared.place.Place.{Place}
use Rattle.gps_world.specs.declared.place.Place.TheVariants.{File, Tcp, Gpsd}

abbrev pub same_place : Place → Place → Bool
same_place (File one) (File two) = pointwise nat_eq one two
same_place (Tcp one) (Tcp two) = pointwise nat_eq one two
same_place (Gpsd one) (Gpsd two) = pointwise nat_eq one two
same_place (File one) (Tcp two) = false
same_place (File one) (Gpsd two) = false
same_place (Tcp one) (File two) = false
same_place (Tcp one) (Gpsd two) = false
same_place (Gpsd one) (File two) = false
same_place (Gpsd one) (Tcp two) = false
