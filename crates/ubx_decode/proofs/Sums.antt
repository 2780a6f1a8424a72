-- Carrying a time to its date loses nothing.
use Rattle.std.proofs.Common.{◌≡◌, ℕ, suc, ◌+◌, ◌-◌, ◌*◌, ◌/◌, ◌%◌, ◌<◌, ◌≤◌, Bool, true, false, cond, ◌&&◌, refl, subst, arith, Some, None, ℤ, pos, negsuc, unsigned_abs}
use Rattle.std.specs.Prelude.{nat_le}
use Rattle.std.proofs.lemmas.Bool.Decides.{nat_tests}
use Rattle.ubx_decode.specs.declared.time.DayTime.{DayTime}
use Rattle.ubx_decode.specs.Time.{day_length, carried, joined, IsSum}

record IsCarried (date since : ℕ) (time : DayTime) : Type 0 where
  sum : unsigned_abs time.day * 86_400_000_000_000 + time.tod + 86_400_000_000_000 ≡ date * 86_400_000_000_000 + since
  within : time.tod < 86_400_000_000_000

made : (date since day : ℕ) → 3_652 ≤ day → day ≡ date + since / 86_400_000_000_000 - 1
    → IsCarried date since (record { day = pos day; tod = since % 86_400_000_000_000 })
made date since day late is = record { sum = omega arith; within = omega arith }

chosen : (date since : ℕ) (test : Bool) (time : DayTime) → nat_le 3_652 (date + since / day_length - 1) && nat_le (date + since / day_length - 1) 47_481 ≡ test
    → cond test (Some (record { day = pos (date + since / day_length - 1); tod = since % day_length })) None ≡ Some time → IsCarried date since time
chosen date since false time is some = cc
chosen date since true time is some =
    let same : record { day = pos (date + since / day_length - 1); tod = since % day_length } ≡ time = cc in
    subst (IsCarried date since) same (made date since (date + since / day_length - 1) (grind (arith, nat_tests, is)) refl)

carried_is : (date since : ℕ) (time : DayTime) → carried date since ≡ Some time → IsCarried date since time
unfolding carried
carried_is date since time some = chosen date since _ time refl some

pub sum_is : (date clock : ℕ) (nano : ℤ) (time : DayTime) → unsigned_abs nano ≤ 1_000_000_000
    → joined (Some (pos date)) (Some clock) (Some nano) ≡ Some time → IsSum date clock nano time
sum_is date clock (pos nano) time small some =
    let is = carried_is date (day_length + clock + nano) time some in
    omega (arith, is.sum)
sum_is date clock (negsuc nano) time small some =
    let is = carried_is date (day_length + clock - suc nano) time some in
    omega (arith, is.sum)

pub within_is : (date since : ℕ) (time : DayTime) → carried date since ≡ Some time → time.tod < day_length
within_is date since time some = (carried_is date since time some).within
