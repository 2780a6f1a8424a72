-- The causes of a status are handed on.
use Rattle.std.proofs.Common.{◌≡◌, ◌<◌, ℕ, ◌⊎◌, inl, inr, Bool, true, false, not, ◌&&◌, ◌||◌, List, [], Option, Some, None, IfSome, is_some, refl, sym, ◌∙◌, ap, subst, arith}
use Rattle.std.specs.Prelude.{Err, IsSome, if◌then◌else◌}
use Rattle.std.specs.List.{All}
use Rattle.gps_outside.specs.Counts.{Rose}
use Rattle.report_book.specs.BookView.{BookView}
use Rattle.serve_end.specs.declared.done.DeviceDone.{DeviceDone}
use Rattle.serve_end.specs.declared.done.MonitorDone.{MonitorDone}
use Rattle.serve_end.specs.declared.done.SessionDone.{SessionDone}
use Rattle.serve_end.specs.declared.served.Served.{Served}
use Rattle.serve_end.specs.Failing.{AnyOf, DeviceFailed, SourceFailed}
use Rattle.gps_world.specs.declared.opening.Stop.{Stop}
use Rattle.gps_world.specs.declared.opening.Stop.TheVariants.{Input, Listen, NoMemory}
use Rattle.gps_world.specs.OpenInOrder.{OpeningHasCause, world_faults}
use Rattle.gps_serve.specs.declared.daemon_end.DaemonEnd.{DaemonEnd}
use Rattle.gps_serve.specs.declared.status.DaemonOutcome.{DaemonOutcome}
use Rattle.gps_serve.specs.AtEnd.{HandedBack, back_with}
use Rattle.gps_serve.specs.Facts.{GateFacts}
use Rattle.gps_serve.specs.Served.{IsUnasked}
use Rattle.gps_world.specs.Opening.{Tells}
use Rattle.serve_door.specs.Doors.{Way}
use Rattle.gps_serve.specs.HandingBack.{EndHasCause, out_of_memory_by}
use Rattle.gps_serve.specs.Lost.{NoneLost, ReadersHadMemory}
use Rattle.gps_serve.specs.Outcome.{OutcomeHasCause, status_of}
use Rattle.gps_serve.specs.Statuses.{AllEnded, TellsNoFault, WasLostByFault, daemon_out_of_memory, outcome_status}
use Rattle.gps_serve.proofs.Causes.{no_gate}
use Rattle.gps_serve.proofs.First.{no_devices, none_tell}
use Rattle.gps_serve.proofs.HadMemory.{none_read}

-- what could not be opened is known by something else
pub caused_if : {W R S K C G : Type 0} (faults : S → ℕ) (gate_faults : G → ℕ) (A A' B B' : Type 0) (served : Served W R S K C G) → (A → A') → (B → B')
    → OutcomeHasCause faults gate_faults A B served → OutcomeHasCause faults gate_faults A' B' served
caused_if faults gate_faults A A' B B' served opens hears cause = record {
  three = λ e. elim (cause.three e) [ inl failed ↦ inl failed | inr unopened ↦ inr (opens unopened) ];
  met = cause.met;
  lost = cause.lost;
  told = cause.told;
  eight = λ e. elim (cause.eight e) [ inl failed ↦ inl failed | inr unheard ↦ inr (hears unheard) ];
  door = cause.door;
  seven = cause.seven;
  zero = cause.zero;
  kept = cause.kept;
  readers = cause.readers;
}

-- nothing was asked to be opened
pub unasked : {W R S K C G : Type 0} (faults : S → ℕ) (gate_faults : G → ℕ) (A B : Type 0) (served : Served W R S K C G)
    → OutcomeHasCause faults gate_faults ⊥ ⊥ served → OutcomeHasCause faults gate_faults A B served
unasked faults gate_faults A B served cause =
    caused_if faults gate_faults ⊥ A ⊥ B served (λ (e : ⊥). absurd e) (λ (e : ⊥). absurd e) cause

not_input : {A : Type 0} → NoMemory ≡ Input → A
not_input e = absurd cc

not_listen : {A : Type 0} → NoMemory ≡ Listen → A
not_listen e = absurd cc

-- nothing was served, as there was no memory for it
pub lacking : {W R S K C G : Type 0} (faults : S → ℕ) (gate_faults : G → ℕ) (A B : Type 0) (served : Served W R S K C G)
    → OutcomeHasCause faults gate_faults (NoMemory ≡ Input) (NoMemory ≡ Listen) served → OutcomeHasCause faults gate_faults A B served
lacking faults gate_faults A B served cause =
    caused_if faults gate_faults (NoMemory ≡ Input) A (NoMemory ≡ Listen) B served not_input not_listen cause

-- something could not be opened
pub unopened : {W R S K C G : Type 0} (X : Type 0) (faults : S → ℕ) (gate_faults : G → ℕ) (input listen : W → ℕ) (world world' : W) (stop : Stop) (served : Served W R S K C G)
    → OpeningHasCause {X = X} (Err stop) (world_faults (input world) (listen world)) (world_faults (input world') (listen world')) → served.world ≡ world'
    → OutcomeHasCause faults gate_faults (stop ≡ Input) (stop ≡ Listen) served
    → OutcomeHasCause faults gate_faults (Rose (input world) (input served.world)) (Rose (listen world) (listen served.world)) served
unopened {W} X faults gate_faults input listen world world' stop served cause is by =
    caused_if faults gate_faults (stop ≡ Input) (Rose (input world) (input served.world)) (stop ≡ Listen) (Rose (listen world) (listen served.world)) served
    (λ e. subst (λ (w : W). Rose (input world) (input w)) (sym is)
    (subst (λ (s : Stop). OpeningHasCause {X = X} (Err s) (world_faults (input world) (listen world)) (world_faults (input world') (listen world'))) e cause))
    (λ e. subst (λ (w : W). Rose (listen world) (listen w)) (sym is)
    (subst (λ (s : Stop). OpeningHasCause {X = X} (Err s) (world_faults (input world) (listen world)) (world_faults (input world') (listen world'))) e cause))
    by

none_kept : {S R : Type 0} (book : Option BookView) (devices : List (DeviceDone S R)) → book ≡ None → IfSome book (λ (b : BookView). NoneLost b devices)
none_kept None devices none = tt
none_kept (Some b) devices none = absurd cc

-- Nothing was served, and no fault of the door was counted.
served_none : {W R S K C G : Type 0} (faults : S → ℕ) (gate_faults : G → ℕ) (A B : Type 0) (served : Served W R S K C G) → served.book ≡ None
    → served.devices.items ≡ [] → served.sessions.items ≡ [] → (SourceFailed gate_faults served.gate → (served.status ≡ 3) ⊎ (served.status ≡ 8))
    → (served.status ≡ 3 → A) → (served.status ≡ 8 → B)
    → (served.status ≡ 7 → served.no_memory ≡ true) → (served.status ≡ 0 → ⊥) → OutcomeHasCause faults gate_faults A B served
served_none faults gate_faults A B served book devices sessions door three eight seven zero = record {
  three = λ e. inr (three e);
  met = no_devices (DeviceFailed faults) served.devices.items served.status devices;
  lost = no_devices WasLostByFault served.devices.items served.status devices;
  told = none_tell served.devices.items served.status devices;
  eight = λ e. inr (eight e);
  door = door;
  seven = seven;
  zero = λ e. absurd (zero e);
  kept = λ e. none_kept served.book served.devices.items book;
  readers = λ e. none_read served.devices.items served.sessions.items devices sessions;
}

-- the same, with no door
pub nothing_served : {W R S K C G : Type 0} (faults : S → ℕ) (gate_faults : G → ℕ) (A B : Type 0) (served : Served W R S K C G) → served.book ≡ None
    → served.devices.items ≡ [] → served.sessions.items ≡ [] → served.gate ≡ None → (served.status ≡ 3 → A) → (served.status ≡ 8 → B)
    → (served.status ≡ 7 → served.no_memory ≡ true) → (served.status ≡ 0 → ⊥) → OutcomeHasCause faults gate_faults A B served
nothing_served faults gate_faults A B served book devices sessions gate three eight seven zero =
    served_none faults gate_faults A B served book devices sessions (no_gate gate_faults served.gate served.status gate) three eight seven zero

-- the status of a daemon that served nothing, and why
pub each_stop : (stop : Stop) (status : ℕ) → status ≡ status_of stop → ((status ≡ 3) × (stop ≡ Input)) ⊎ ((status ≡ 8) × (stop ≡ Listen)) ⊎ (status ≡ 7)
each_stop Input status is = inl (is, refl)
each_stop Listen status is = inr (inl (is, refl))
each_stop NoMemory status is = inr (inr is)

pub stop_range : (stop : Stop) (status : ℕ) → status ≡ status_of stop → (status ≡ 0) ⊎ (status ≡ 3) ⊎ (status ≡ 7) ⊎ (status ≡ 8)
stop_range Input status is = inr (inl is)
stop_range Listen status is = inr (inr (inr is))
stop_range NoMemory status is = inr (inr (inl is))

three_of : (stop : Stop) (status : ℕ) → status ≡ status_of stop → status ≡ 3 → stop ≡ Input
three_of Input status is e = refl
three_of Listen status is e = let eight : status ≡ 8 = is in absurd (omega (arith, eight, e))
three_of NoMemory status is e = let seven : status ≡ 7 = is in absurd (omega (arith, seven, e))

eight_of : (stop : Stop) (status : ℕ) → status ≡ status_of stop → status ≡ 8 → stop ≡ Listen
eight_of Input status is e = let three : status ≡ 3 = is in absurd (omega (arith, three, e))
eight_of Listen status is e = refl
eight_of NoMemory status is e = let seven : status ≡ 7 = is in absurd (omega (arith, seven, e))

not_zero : (stop : Stop) (status : ℕ) → status ≡ status_of stop → status ≡ 0 → ⊥
not_zero Input status is e = let three : status ≡ 3 = is in omega (arith, three, e)
not_zero Listen status is e = let eight : status ≡ 8 = is in omega (arith, eight, e)
not_zero NoMemory status is e = let seven : status ≡ 7 = is in omega (arith, seven, e)

seven_of : (stop : Stop) (status : ℕ) → status ≡ status_of stop → status ≡ 7 → out_of_memory_by stop ≡ true
seven_of Input status is e = let three : status ≡ 3 = is in absurd (omega (arith, three, e))
seven_of Listen status is e = let eight : status ≡ 8 = is in absurd (omega (arith, eight, e))
seven_of NoMemory status is e = refl

-- Nothing was served, for this.
pub stopped_has_cause : {W R S K C G : Type 0} (faults : S → ℕ) (gate_faults : G → ℕ) (A B : Type 0) (stop : Stop) (served : Served W R S K C G) → served.book ≡ None
    → served.devices.items ≡ [] → served.sessions.items ≡ [] → (SourceFailed gate_faults served.gate → ⊥) → served.status ≡ status_of stop
    → served.no_memory ≡ out_of_memory_by stop
    → (stop ≡ Input → A) → (stop ≡ Listen → B) → OutcomeHasCause faults gate_faults A B served
stopped_has_cause faults gate_faults A B stop served book devices sessions sound status no_memory opens hears =
    served_none faults gate_faults A B served book devices sessions (λ failed. absurd (sound failed))
    (λ e. opens (three_of stop served.status status e)) (λ e. hears (eight_of stop served.status status e))
    (λ e. no_memory ∙ seven_of stop served.status status e)
    (not_zero stop served.status status)

-- The status of a daemon that served, by its faults and whether it was out of memory.
abbrev code : Bool → Bool → Bool → ℕ
code read door lacks = if read then 3 else (if door then 8 else (if lacks then 7 else 0))

read_by : (read door lacks : Bool) → code read door lacks ≡ 3 → read ≡ true
read_by true door lacks e = refl
read_by false true lacks e = let so : 8 ≡ 3 = e in absurd (omega (arith, so))
read_by false false true e = let so : 7 ≡ 3 = e in absurd (omega (arith, so))
read_by false false false e = let so : 0 ≡ 3 = e in absurd (omega (arith, so))

three_by : {X : Type 0} (read door lacks : Bool) → (read ≡ false → X → ⊥) → X → code read door lacks ≡ 3
three_by true door lacks never x = refl
three_by false door lacks never x = absurd (never refl x)

three_or : {X : Type 0} (read door lacks : Bool) (status : ℕ) → status ≡ code read door lacks → (read ≡ false → X) → (status ≡ 3) ⊎ X
three_or true door lacks status is so = inl is
three_or false door lacks status is so = inr (so refl)

door_by : (read door lacks : Bool) → code read door lacks ≡ 8 → door ≡ true
door_by true door lacks e = let so : 3 ≡ 8 = e in absurd (omega (arith, so))
door_by false true lacks e = refl
door_by false false true e = let so : 7 ≡ 8 = e in absurd (omega (arith, so))
door_by false false false e = let so : 0 ≡ 8 = e in absurd (omega (arith, so))

eight_by : {X : Type 0} (read door lacks : Bool) (status : ℕ) → status ≡ code read door lacks → (door ≡ false → X → ⊥) → X → (status ≡ 3) ⊎ (status ≡ 8)
eight_by true door lacks status is never x = inl is
eight_by false true lacks status is never x = inr is
eight_by false false lacks status is never x = absurd (never refl x)

lacks_if : (read door lacks : Bool) → code read door lacks ≡ 7 → lacks ≡ true
lacks_if true door lacks e = let so : 3 ≡ 7 = e in absurd (omega (arith, so))
lacks_if false true lacks e = let so : 8 ≡ 7 = e in absurd (omega (arith, so))
lacks_if false false true e = refl
lacks_if false false false e = let so : 0 ≡ 7 = e in absurd (omega (arith, so))

none_by : (read door lacks : Bool) → code read door lacks ≡ 0 → (read ≡ false) × (lacks ≡ false)
none_by true door lacks e = let so : 3 ≡ 0 = e in absurd (omega (arith, so))
none_by false true lacks e = let so : 8 ≡ 0 = e in absurd (omega (arith, so))
none_by false false true e = let so : 7 ≡ 0 = e in absurd (omega (arith, so))
none_by false false false e = (refl, refl)

ended_by : (no_memory read ended : Bool) → (no_memory || (not read && not ended)) ≡ false → read ≡ false → ended ≡ true
ended_by true read ended e none = absurd (cc e)
ended_by false true ended e none = absurd (cc none)
ended_by false false true e none = refl
ended_by false false false e none = absurd (cc e)

range_by : (read door lacks : Bool) (status : ℕ) → status ≡ code read door lacks → (status ≡ 0) ⊎ (status ≡ 3) ⊎ (status ≡ 7) ⊎ (status ≡ 8)
range_by true door lacks status is = inr (inl is)
range_by false true lacks status is = inr (inr (inr is))
range_by false false true status is = inr (inr (inl is))
range_by false false false status is = inl is

pub outcome_range : (o : DaemonOutcome) (status : ℕ) → status ≡ outcome_status o → (status ≡ 0) ⊎ (status ≡ 3) ⊎ (status ≡ 7) ⊎ (status ≡ 8)
outcome_range o status is = range_by o.read_fault o.door_fault (daemon_out_of_memory o) status is

-- The status of a daemon that served has its cause.
pub end_has_cause : {W R S K C G : Type 0} (faults : S → ℕ) (gate_faults : G → ℕ) (A B : Type 0) (end : DaemonEnd S K G R) (served : Served W R S K C G)
    → EndHasCause faults gate_faults end → served.status ≡ outcome_status end.outcome → served.no_memory ≡ daemon_out_of_memory end.outcome
    → served.book ≡ Some end.book → served.gate ≡ Some end.gate → served.devices.items ≡ end.devices.items → served.sessions.items ≡ end.sessions.items
    → OutcomeHasCause faults gate_faults A B served
end_has_cause {W} {R} {S} {K} {C} {G} faults gate_faults A B end served cause status no_memory book gate devices sessions =
    let o = end.outcome in
    let lacks = daemon_out_of_memory o in
    record {
      three = λ e. inl (subst (AnyOf (DeviceFailed faults)) (sym devices) (cause.read (read_by o.read_fault o.door_fault lacks (sym status ∙ e))));
      met = λ some. status ∙ three_by o.read_fault o.door_fault lacks cause.met (subst (AnyOf (DeviceFailed faults)) devices some);
      lost = λ some. status ∙ three_by o.read_fault o.door_fault lacks cause.lost (subst (AnyOf WasLostByFault) devices some);
      told = three_or o.read_fault o.door_fault lacks served.status status (λ e. subst (All TellsNoFault) (sym devices) (cause.told e));
      eight = λ e. inl (subst (SourceFailed gate_faults) (sym gate) (cause.door (door_by o.read_fault o.door_fault lacks (sym status ∙ e))));
      door = λ some. eight_by o.read_fault o.door_fault lacks served.status status
          (λ e failed. let none = cause.sound e in let rose : 0 < gate_faults end.gate = subst (SourceFailed gate_faults) gate failed in omega (arith, none, rose)) some;
      seven = λ e. no_memory ∙ lacks_if o.read_fault o.door_fault lacks (sym status ∙ e);
      zero = λ e.
          let none = none_by o.read_fault o.door_fault lacks (sym status ∙ e) in (
            no_memory ∙ none.1,
            ap is_some book,
            subst AllEnded (sym devices) (cause.ended (ended_by o.no_memory o.read_fault o.ended none.1 none.0)),
          );
      kept = λ e. subst (λ (b : Option BookView). IfSome b (λ (x : BookView). NoneLost x served.devices.items)) (sym book)
          (subst (NoneLost end.book) (sym devices) (cause.kept (sym no_memory ∙ e)));
      readers = λ e. subst (λ (d : List (DeviceDone S R)). ReadersHadMemory d served.sessions.items) (sym devices)
          (subst (ReadersHadMemory end.devices.items) (sym sessions) (cause.readers (sym no_memory ∙ e)));
    }

-- nothing is left
pub none_left : {S K G R : Type 0} (devices : List (DeviceDone S R)) (sessions : List (SessionDone S K R)) (monitors : List MonitorDone) (gate : Option G)
    (lacks lacks' : Bool) → devices ≡ [] → sessions ≡ [] → monitors ≡ [] → lacks ≡ lacks'
    → back_with devices sessions monitors gate 0 lacks ≡ back_with [] [] [] gate 0 lacks'
none_left devices sessions monitors gate lacks lacks' no_device no_session no_monitor is =
    λ i. back_with (no_device i) (no_session i) (no_monitor i) gate 0 (is i)

-- what holds of the book and of what goes with it holds of them as they are handed back
pub as_handed : {X : Type 0} (P : X → BookView → Type 0) (back back' : X) (given : Option BookView) (book : BookView) → back' ≡ back → given ≡ Some book → P back book
    → IfSome given (P back')
as_handed {X} P back back' given book same is so =
    subst (λ (x : X). IfSome given (P x)) (sym same) (subst (λ (b : Option BookView). IfSome b (P back)) (sym is) so)

-- what holds of the door holds of it as it is handed back
pub gate_as_handed : {G S K R : Type 0} (P : G → Type 0) (back back' : HandedBack G S K R) → back' ≡ back → IfSome back.gate P → IfSome back'.gate P
gate_as_handed {G} {S} {K} {R} P back back' is so = subst (λ (b : HandedBack G S K R). IfSome b.gate P) (sym is) so

-- nobody asked a door that came back as it was opened
pub still_unasked : {G S K : Type 0} (facts : GateFacts G S K) (told : Option (List (Way S K))) (gate gate' : G) → gate' ≡ gate → Tells told (facts.links gate)
    → (facts.faults gate ≡ 0) × (facts.quiets gate ≡ 0) → IsUnasked facts told gate'
still_unasked {G} facts told gate gate' is links none =
    let opened : IsUnasked facts told gate = record { links = links; faults = none.0; quiets = none.1 } in
    subst (λ (x : G). IsUnasked facts told x) (sym is) opened

-- there is a book
pub has_book : {P : Type 0} (given : Option BookView) (book : BookView) → given ≡ Some book → given ≡ None → P
has_book None book some none = absurd (cc some)
has_book (Some b) book some none = absurd (cc none)

-- the door is handed back, if there is one
pub gate_there : {G S K R : Type 0} (gate : G) (back back' : HandedBack G S K R) → back' ≡ back → back.gate ≡ Some gate → IsSome back'.gate
gate_there {G} {S} {K} {R} gate back back' is there = ap is_some (ap (λ (b : HandedBack G S K R). b.gate) is ∙ there)
