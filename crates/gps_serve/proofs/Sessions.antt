-- What is left of the sessions, put together one after another.
use Rattle.std.proofs.Common.{◌≡◌, ℕ, ◌<◌, ◌≤◌, ◌+◌, suc, List, [], ◌∷◌, ◌++◌, map, length, get_or, Option, Some, refl, sym, ◌∙◌, ap, subst, append_assoc, arith}
use Rattle.std.proofs.lemmas.List.{append-nil, length-append, map-append}
use Rattle.std.proofs.lemmas.List.FromFn.{map-range_with_len_more}
use Rattle.std.specs.List.{AllZip, range_with_len}
use Rattle.book_sessions.specs.MemberView.{MemberView}
use Rattle.gps_lane.specs.Ends.{Putting, Taking}
use Rattle.gps_outside.specs.Told.{Goes}
use Rattle.hub_door.specs.Admissions.{Admissions, SessionLanes}
use Rattle.hub_promise.specs.Parts.{AreAdmitted}
use Rattle.report_book.specs.BookView.{BookView}
use Rattle.output_lines.specs.declared.closing.SessionEnd.TheVariants.{Drained, WriteFault}
use Rattle.gps_lane.specs.Carried.{input_part}
use Rattle.gps_lane.specs.declared.piece.Ending.TheVariants.{Failed}
use Rattle.gps_lane.specs.declared.piece.Piece.{Piece}
use Rattle.serve_end.specs.declared.done.SessionDone.{SessionDone}
use Rattle.serve_end.specs.Lanes.{Settles}
use Rattle.serve_end.specs.Outlets.{Empties, writer_end}
use Rattle.serve_end.proofs.Endings.{sessions_tell_last}
use Rattle.serve_workers.specs.declared.session.SessionLink.{SessionLink}
use Rattle.serve_workers.specs.declared.session.LinkDone.{LinkDone}
use Rattle.serve_workers.specs.Sessions.{SessionRuns, Wrote}
use Rattle.serve_workers.specs.Readings.{HandsOn, IsInputPiece, WasRead}
use Rattle.serve_workers.specs.Writing.{Writes}
use Rattle.session_core.specs.Naming.{table_of}
use Rattle.gps_serve.specs.Facts.{SinkFacts}
use Rattle.gps_serve.specs.Served.{IsOneLane, OutletServed}
use Rattle.serve_door.specs.Doors.{DoorNow, EachLink, IsNewLink, HasNewLanes, Tended, Way, lanes_of}
use Rattle.gps_serve.specs.Readies.{AllServed, AreReady, InputLeft, SessionReady, SessionsSoFar}
use Rattle.serve_end.specs.Runs.{SourceFacts}
use Rattle.serve_workers.proofs.Zips.{zip_more}

module _ {S K R : Type 0} (sources : SourceFacts S) (sinks : SinkFacts K) where
  abbrev pub New : SessionLink S K R → Type 0
  New link = IsNewLink sources.content sources.faults sources.quiets sinks.written sinks.faults link

  abbrev pub Runs : SessionLink S K R → LinkDone S K R → Type 0
  Runs link run = SessionRuns sources.content sources.faults sources.quiets sinks.written sinks.faults link run

  all_ready : (queue : ℕ) (links : List (SessionLink S K R)) (sessions : List MemberView) (inputs : List (Taking Piece)) (runs : List (LinkDone S K R))
      → map (λ (a : MemberView). table_of a.session.name) sessions ≡ map (λ (l : SessionLanes). Some l.outlet) (map (lanes_of queue) links)
      → map (λ (x : Taking Piece). x.lane) inputs ≡ map (λ (l : SessionLanes). l.input) (map (lanes_of queue) links)
      → EachLink HasNewLanes links → EachLink New links → AllZip Runs links runs → AreReady sources sinks sessions inputs runs
  all_ready queue [] [] [] [] names lanes unused new ran = tt
  all_ready queue [] [] [] (run ∷ runs) names lanes unused new ran = absurd ran
  all_ready queue [] [] (x ∷ inputs) runs names lanes unused new ran = absurd cc
  all_ready queue [] (a ∷ sessions) inputs runs names lanes unused new ran = absurd cc
  all_ready queue (link ∷ links) [] inputs runs names lanes unused new ran = absurd cc
  all_ready queue (link ∷ links) (a ∷ sessions) [] runs names lanes unused new ran = absurd cc
  all_ready queue (link ∷ links) (a ∷ sessions) (x ∷ inputs) [] names lanes unused new ran = absurd ran
  all_ready queue (link ∷ links) (a ∷ sessions) (x ∷ inputs) (run ∷ runs) names lanes unused new ran = (
    record { link = link; unread = new.0.0; unwritten = new.0.1; unused = unused.0; ran = ran.0; input = cc lanes; outlet = sym (cc names) },
    all_ready queue links sessions inputs runs (cc names) (cc lanes) unused.1 new.1 ran.1,
  )

  pub sessions_ready : (queue : ℕ) (told : Option (List (Way S K))) (now : DoorNow S K) (seat : Admissions) (sessions : List MemberView) (inputs : List (Taking Piece))
      (runs : List (LinkDone S K R)) → Tended New Runs queue told now seat runs → AreAdmitted seat.links sessions inputs → AreReady sources sinks sessions inputs runs
  sessions_ready queue told now seat sessions inputs runs tended admitted =
      let same = tended.seated.lanes in
      all_ready queue tended.links sessions inputs runs
      (admitted.outlets ∙ ap (map (λ (l : SessionLanes). Some l.outlet)) (sym same))
      (admitted.inputs_are ∙ ap (map (λ (l : SessionLanes). l.input)) (sym same))
      tended.seated.unused tended.seated.each tended.ran

  -- the end that gets a session's input is still that of its reader's lane, and its items are those of its outlet
  pub input_lane : (a : MemberView) (x : Taking Piece) (run : LinkDone S K R) → SessionReady sources sinks a x run → x.lane ≡ run.reader.pieces.lane
  input_lane a x run ready = ready.input ∙ sym (ap (λ (tx : Putting Piece). tx.lane) ready.ran.reads.lane)

  pub outlet_name : (a : MemberView) (x : Taking Piece) (run : LinkDone S K R) → SessionReady sources sinks a x run → Some run.writer.items.lane ≡ table_of a.session.name
  outlet_name a x run ready = ap (λ (rx : Taking (List ℕ)). Some rx.lane) ready.ran.wrote.lane ∙ ready.outlet

  pub input_served : (a : MemberView) (x : Taking Piece) (run : LinkDone S K R) (done : SessionDone S K R) → SessionReady sources sinks a x run
      → done.source ≡ run.reader.source → done.input_tx ≡ run.reader.pieces → Settles run.reader.pieces x done.input_rx → InputLeft sources x done
  input_served a x run done ready source tx settles =
      let link = ready.link in
      let hands : HandsOn input_part IsInputPiece run.reader.ending [] run.reader.pieces.put (sources.content link.source) (sources.content run.reader.source) =
      subst (λ put. HandsOn input_part IsInputPiece run.reader.ending put run.reader.pieces.put (sources.content link.source) (sources.content run.reader.source))
      ready.unused.1 ready.ran.reads.hands in
      record {
        served = record {
          reader = record {
            first = link.source;
            unread = ready.unread;
            ending = run.reader.ending;
            hands = subst (λ (s : S). HandsOn input_part IsInputPiece run.reader.ending [] done.input_tx.put (sources.content link.source) (sources.content s)) (sym source)
                (subst (λ (t : Putting Piece). HandsOn input_part IsInputPiece run.reader.ending [] t.put (sources.content link.source) (sources.content run.reader.source)) (sym tx) hands);
            failed = subst (λ (s : S). run.reader.ending ≡ Some Failed → 0 < sources.faults s) (sym source)
                (λ (e : run.reader.ending ≡ Some Failed). let rose = ready.ran.reads.meets.rose (ready.ran.reads.meets.said e) in omega (arith, rose));
          };
          lane = subst (λ (t : Putting Piece). IsOneLane t done.input_rx) (sym tx) (record { one = settles.one; begins = settles.begins });
          read = subst (λ (s : S). Goes (WasRead (sources.faults s) (sources.quiets s)) (sources.content link.source) (sources.content s)) (sym source) ready.ran.read;
        };
        settled = settles.behind (sessions_tell_last run.reader.ending [] run.reader.pieces.put (sources.content link.source) (sources.content run.reader.source) hands refl);
      }

  pub outlet_served : (a : MemberView) (x : Taking Piece) (run : LinkDone S K R) (done : SessionDone S K R) → SessionReady sources sinks a x run
      → Empties (writer_end done.end) a.session.kept run.writer.items done.items_rx
      → ((link : SessionLink S K R) → Runs link run → Wrote (writer_end done.end) link.items done.items_rx (sinks.written link.sink) (sinks.written done.sink) (sinks.faults link.sink) (sinks.faults done.sink))
      → OutletServed sinks a done
  outlet_served a x run done ready empties wrote =
      let link = ready.link in
      let w = wrote link ready.ran in
      record {
        first = link.sink;
        unwritten = ready.unwritten;
        outlet = ap Some empties.lane ∙ outlet_name a x run ready;
        begins = empties.begins;
        all = λ (e : done.end ≡ Drained). empties.all (ap writer_end e);
        writes = subst (λ got. Writes (writer_end done.end) got done.items_rx.got (sinks.written link.sink) (sinks.written done.sink)) ready.unused.0 w.writes;
        failed = λ (e : done.end ≡ WriteFault). w.failed (ap writer_end e);
        sound = λ (e : done.end ≡ Drained). w.sound (ap writer_end e) ∙ ready.unwritten.no_fault;
      }

  -- the same of the session that has this number
  pub input_lane_at : (sessions : List MemberView) (number : ℕ) (x : Taking Piece) (run : LinkDone S K R) → number < length sessions
      → ((free : MemberView) → SessionReady sources sinks (get_or sessions number free) x run) → x.lane ≡ run.reader.pieces.lane
  input_lane_at [] number x run there ready = absurd (omega arith)
  input_lane_at (a ∷ sessions) number x run there ready = input_lane (get_or (a ∷ sessions) number a) x run (ready a)

  pub input_served_at : (sessions : List MemberView) (number : ℕ) (x : Taking Piece) (run : LinkDone S K R) (done : SessionDone S K R) → number < length sessions
      → ((free : MemberView) → SessionReady sources sinks (get_or sessions number free) x run)
      → done.source ≡ run.reader.source → done.input_tx ≡ run.reader.pieces → Settles run.reader.pieces x done.input_rx → InputLeft sources x done
  input_served_at [] number x run done there ready source tx settles = absurd (omega arith)
  input_served_at (a ∷ sessions) number x run done there ready source tx settles =
      input_served (get_or (a ∷ sessions) number a) x run done (ready a) source tx settles

  pub sessions_none : (sessions : List MemberView) (inputs : List (Taking Piece)) (runs : List (LinkDone S K R)) → AreReady sources sinks sessions inputs runs
      → SessionsSoFar sources sinks sessions inputs inputs runs 0 []
  sessions_none sessions inputs runs ready =
      record { gone = []; rest = sessions; split = refl; gone_inputs = []; inputs_split = refl; inputs_are = tt; outlets_are = tt; numbers = refl; count = refl; ready = ready }

  -- from the iterators' beginnings on
  pub sessions_begin : (sessions : List MemberView) (inputs left_inputs : List (Taking Piece)) (runs left_runs : List (LinkDone S K R)) (done : List (SessionDone S K R))
      → AreReady sources sinks sessions inputs runs → left_inputs ≡ inputs → left_runs ≡ runs → done ≡ [] → SessionsSoFar sources sinks sessions inputs left_inputs left_runs 0 done
  sessions_begin sessions inputs left_inputs runs left_runs done ready same is none =
      subst (λ (i : List (Taking Piece)). SessionsSoFar sources sinks sessions inputs i left_runs 0 done) (sym same)
      (subst (λ (r : List (LinkDone S K R)). SessionsSoFar sources sinks sessions inputs inputs r 0 done) (sym is)
      (subst (λ (d : List (SessionDone S K R)). SessionsSoFar sources sinks sessions inputs inputs runs 0 d) (sym none) (sessions_none sessions inputs runs ready)))

at : {X : Type 0} (gone rest : List X) (x free : X) → get_or (gone ++ x ∷ rest) (length gone) free ≡ x
at [] rest x free = refl
at (g ∷ gone) rest x free = at gone rest x free

map_same : (xs : List ℕ) → map (λ (n : ℕ). n) xs ≡ xs
map_same [] = refl
map_same (x ∷ xs) = ap (λ l. x ∷ l) (map_same xs)

pub range_more : (n : ℕ) → range_with_len 0 (n + 1) ≡ range_with_len 0 n ++ n ∷ []
range_more n =
    sym (map_same (range_with_len 0 (n + 1))) ∙ map-range_with_len_more (λ (m : ℕ). m) 0 n n (omega arith) ∙ ap (λ l. l ++ n ∷ []) (map_same (range_with_len 0 n))

-- the next of the sessions that are left
pub record IsNext {S K R : Type 0} (sources : SourceFacts S) (sinks : SinkFacts K) (sessions : List MemberView) (number : ℕ) (x : Taking Piece) (run : LinkDone S K R) : Type 0 where
  pub there : number < length sessions
  pub ready : (free : MemberView) → SessionReady sources sinks (get_or sessions number free) x run

module _ {S K R : Type 0} (sources : SourceFacts S) (sinks : SinkFacts K) where
  same_lengths : (sessions : List MemberView) (inputs : List (Taking Piece)) (runs : List (LinkDone S K R)) → AreReady sources sinks sessions inputs runs
      → (length inputs ≡ length sessions) × (length runs ≡ length sessions)
  same_lengths [] [] [] ready = (refl, refl)
  same_lengths [] [] (run ∷ runs) ready = absurd ready
  same_lengths [] (x ∷ inputs) runs ready = absurd ready
  same_lengths (a ∷ sessions) [] runs ready = absurd ready
  same_lengths (a ∷ sessions) (x ∷ inputs) [] ready = absurd ready
  same_lengths (a ∷ sessions) (x ∷ inputs) (run ∷ runs) ready =
      let same = same_lengths sessions inputs runs ready.1 in
      (ap suc same.0, ap suc same.1)

  -- one more of each is left if one more session is
  pub some_left : (sessions : List MemberView) (inputs left : List (Taking Piece)) (runs : List (LinkDone S K R)) (number : ℕ) (done : List (SessionDone S K R))
      → SessionsSoFar sources sinks sessions inputs left runs number done → number < length sessions → (0 < length left) × (0 < length runs)
  some_left sessions inputs left runs number done so there =
      let same = same_lengths so.rest left runs so.ready in
      let size : length sessions ≡ length so.gone + length so.rest = ap length so.split ∙ length-append so.gone so.rest in
      let some : 0 < length so.rest = omega (arith, size, so.count, there) in
      (omega (arith, same.0, some), omega (arith, same.1, some))

  -- the next session, whose lane and run were taken
  pub next_session : (sessions : List MemberView) (inputs left left' : List (Taking Piece)) (x : Taking Piece) (run : LinkDone S K R) (runs runs' : List (LinkDone S K R))
      (number : ℕ) (done : List (SessionDone S K R)) → SessionsSoFar sources sinks sessions inputs left runs number done → left ≡ x ∷ left' → runs ≡ run ∷ runs'
      → SessionsSoFar sources sinks sessions inputs (x ∷ left') (run ∷ runs') number done
  next_session sessions inputs left left' x run runs runs' number done so left_is runs_are =
      subst (λ l. SessionsSoFar sources sinks sessions inputs l (run ∷ runs') number done) left_is
      (subst (λ r. SessionsSoFar sources sinks sessions inputs left r number done) runs_are so)

  next_of : (gone rest : List MemberView) (a : MemberView) (x : Taking Piece) (run : LinkDone S K R) (sessions : List MemberView) (number : ℕ)
      → sessions ≡ gone ++ a ∷ rest → length gone ≡ number → SessionReady sources sinks a x run → IsNext sources sinks sessions number x run
  next_of gone rest a x run sessions number split count ready =
      let l : length sessions ≡ length (gone ++ a ∷ rest) = ap length split in
      let at_here : (free : MemberView) → get_or sessions number free ≡ a =
      λ free. ap (λ (l : List MemberView). get_or l number free) split ∙ ap (λ n. get_or (gone ++ a ∷ rest) n free) (sym count) ∙ at gone rest a free in
      record {
        there = omega (arith, l, count, length-append gone (a ∷ rest));
        ready = λ free. subst (λ b. SessionReady sources sinks b x run) (sym (at_here free)) ready;
      }

  next_in : (gone rest : List MemberView) (left : List (Taking Piece)) (x : Taking Piece) (run : LinkDone S K R) (runs : List (LinkDone S K R))
      (sessions : List MemberView) (number : ℕ) → sessions ≡ gone ++ rest → length gone ≡ number → AreReady sources sinks rest (x ∷ left) (run ∷ runs)
      → IsNext sources sinks sessions number x run
  next_in gone [] left x run runs sessions number split count ready = absurd ready
  next_in gone (a ∷ rest) left x run runs sessions number split count ready = next_of gone rest a x run sessions number split count ready.0

  -- the session at this place is ready
  pub is_next : (sessions : List MemberView) (inputs left : List (Taking Piece)) (x : Taking Piece) (run : LinkDone S K R) (runs : List (LinkDone S K R)) (number : ℕ)
      (done : List (SessionDone S K R)) → SessionsSoFar sources sinks sessions inputs (x ∷ left) (run ∷ runs) number done → IsNext sources sinks sessions number x run
  is_next sessions inputs left x run runs number done so = next_in so.gone so.rest left x run runs sessions number so.split so.count so.ready

  more_of : (gone rest : List MemberView) (a : MemberView) (sessions : List MemberView) (gone_inputs inputs left : List (Taking Piece)) (x : Taking Piece) (run : LinkDone S K R)
      (runs : List (LinkDone S K R)) (number : ℕ) (done : List (SessionDone S K R)) (session : SessionDone S K R)
      → sessions ≡ gone ++ a ∷ rest → length gone ≡ number → inputs ≡ gone_inputs ++ x ∷ left → AllZip (InputLeft sources) gone_inputs done
      → AllZip (OutletServed sinks) gone done → map (λ (s : SessionDone S K R). s.number) done ≡ range_with_len 0 number
      → AreReady sources sinks (a ∷ rest) (x ∷ left) (run ∷ runs) → session.number ≡ number → InputLeft sources x session
      → ((free : MemberView) → OutletServed sinks (get_or sessions number free) session)
      → SessionsSoFar sources sinks sessions inputs left runs (number + 1) (done ++ session ∷ [])
  more_of gone rest a sessions gone_inputs inputs left x run runs number done session split count inputs_split ins outs numbers ready is input outlet =
      let at_here : get_or sessions number a ≡ a =
      ap (λ (l : List MemberView). get_or l number a) split ∙ ap (λ n. get_or (gone ++ a ∷ rest) n a) (sym count) ∙ at gone rest a a in
      record {
        gone = gone ++ a ∷ [];
        rest = rest;
        split = split ∙ sym (append_assoc gone (a ∷ []) rest);
        gone_inputs = gone_inputs ++ x ∷ [];
        inputs_split = inputs_split ∙ sym (append_assoc gone_inputs (x ∷ []) left);
        inputs_are = zip_more (InputLeft sources) gone_inputs done x session ins input;
        outlets_are = zip_more (OutletServed sinks) gone done a session outs (subst (λ b. OutletServed sinks b session) at_here (outlet a));
        numbers = map-append (λ (s : SessionDone S K R). s.number) done (session ∷ []) ∙ ap (λ l. l ++ session.number ∷ []) numbers
            ∙ ap (λ n. range_with_len 0 number ++ n ∷ []) is ∙ sym (range_more number);
        count = omega (arith, count, length-append gone (a ∷ []));
        ready = ready.1;
      }

  more_in : (gone rest : List MemberView) (sessions : List MemberView) (gone_inputs inputs left : List (Taking Piece)) (x : Taking Piece) (run : LinkDone S K R)
      (runs : List (LinkDone S K R)) (number : ℕ) (done : List (SessionDone S K R)) (session : SessionDone S K R)
      → sessions ≡ gone ++ rest → length gone ≡ number → inputs ≡ gone_inputs ++ x ∷ left → AllZip (InputLeft sources) gone_inputs done
      → AllZip (OutletServed sinks) gone done → map (λ (s : SessionDone S K R). s.number) done ≡ range_with_len 0 number
      → AreReady sources sinks rest (x ∷ left) (run ∷ runs) → session.number ≡ number → InputLeft sources x session
      → ((free : MemberView) → OutletServed sinks (get_or sessions number free) session)
      → SessionsSoFar sources sinks sessions inputs left runs (number + 1) (done ++ session ∷ [])
  more_in gone [] sessions gone_inputs inputs left x run runs number done session split count inputs_split ins outs numbers ready is input outlet = absurd ready
  more_in gone (a ∷ rest) sessions gone_inputs inputs left x run runs number done session split count inputs_split ins outs numbers ready is input outlet =
      more_of gone rest a sessions gone_inputs inputs left x run runs number done session split count inputs_split ins outs numbers ready is input outlet

  -- a session more
  pub sessions_more : (sessions : List MemberView) (inputs left : List (Taking Piece)) (x : Taking Piece) (run : LinkDone S K R) (runs : List (LinkDone S K R)) (number : ℕ)
      (done done' : List (SessionDone S K R)) (session : SessionDone S K R)
      → SessionsSoFar sources sinks sessions inputs (x ∷ left) (run ∷ runs) number done → session.number ≡ number → InputLeft sources x session
      → ((free : MemberView) → OutletServed sinks (get_or sessions number free) session) → done' ≡ done ++ session ∷ []
      → SessionsSoFar sources sinks sessions inputs left runs (number + 1) done'
  sessions_more sessions inputs left x run runs number done done' session so is input outlet more =
      subst (SessionsSoFar sources sinks sessions inputs left runs (number + 1)) (sym more)
      (more_in so.gone so.rest sessions so.gone_inputs inputs left x run runs number done session so.split so.count so.inputs_split so.inputs_are so.outlets_are so.numbers so.ready
      is input outlet)

  -- the same of a book that did not change
  pub same_book : (b b' : BookView) (inputs left : List (Taking Piece)) (runs : List (LinkDone S K R)) (number : ℕ) (done : List (SessionDone S K R)) → b' ≡ b
      → SessionsSoFar sources sinks b.sessions inputs left runs number done → SessionsSoFar sources sinks b'.sessions inputs left runs number done
  same_book b b' inputs left runs number done same so =
      subst (λ (c : BookView). SessionsSoFar sources sinks c.sessions inputs left runs number done) (sym same) so

  all_in : (gone rest sessions : List MemberView) (gone_inputs inputs left : List (Taking Piece)) (runs : List (LinkDone S K R)) (number : ℕ) (done : List (SessionDone S K R))
      → sessions ≡ gone ++ rest → length gone ≡ number → inputs ≡ gone_inputs ++ left → AllZip (InputLeft sources) gone_inputs done
      → AllZip (OutletServed sinks) gone done → map (λ (s : SessionDone S K R). s.number) done ≡ range_with_len 0 number
      → AreReady sources sinks rest left runs → length sessions ≤ number → AllServed sources sinks sessions inputs done
  all_in gone [] sessions gone_inputs inputs [] [] number done split count inputs_split ins outs numbers ready few = record {
    inputs_are = subst (λ l. AllZip (InputLeft sources) l done) (sym (inputs_split ∙ append-nil gone_inputs)) ins;
    outlets_are = subst (λ l. AllZip (OutletServed sinks) l done) (sym (split ∙ append-nil gone)) outs;
    numbers = numbers ∙ ap (range_with_len 0) (sym count ∙ ap length (sym (split ∙ append-nil gone)));
  }
  all_in gone [] sessions gone_inputs inputs [] (run ∷ runs) number done split count inputs_split ins outs numbers ready few = absurd ready
  all_in gone [] sessions gone_inputs inputs (x ∷ left) runs number done split count inputs_split ins outs numbers ready few = absurd ready
  all_in gone (a ∷ rest) sessions gone_inputs inputs left runs number done split count inputs_split ins outs numbers ready few =
      let l : length sessions ≡ length (gone ++ a ∷ rest) = ap length split in
      absurd (omega (arith, l, count, few, length-append gone (a ∷ rest)))

  pub sessions_all : (sessions : List MemberView) (inputs left : List (Taking Piece)) (runs : List (LinkDone S K R)) (number : ℕ) (done : List (SessionDone S K R))
      → SessionsSoFar sources sinks sessions inputs left runs number done → length sessions ≤ number → AllServed sources sinks sessions inputs done
  sessions_all sessions inputs left runs number done so few =
      all_in so.gone so.rest sessions so.gone_inputs inputs left runs number done so.split so.count so.inputs_split so.inputs_are so.outlets_are so.numbers so.ready few

  -- all that ran were put together
  pub none_left : (sessions : List MemberView) (inputs left : List (Taking Piece)) (runs : List (LinkDone S K R)) (number : ℕ) (done : List (SessionDone S K R))
      → SessionsSoFar sources sinks sessions inputs left runs number done → length sessions ≤ number → length runs ≡ 0
  none_left sessions inputs left runs number done so few =
      let same = same_lengths so.rest left runs so.ready in
      let size : length sessions ≡ length so.gone + length so.rest = ap length so.split ∙ length-append so.gone so.rest in
      omega (arith, size, so.count, few, same.1)
