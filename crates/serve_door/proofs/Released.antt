-- The lanes of a session that has ended.
use Rattle.std.proofs.Common.{◌≡◌, ℕ, ◌<◌, ◌≤◌, zero, suc, Bool, true, false, List, [], ◌∷◌, ◌++◌, length, map, get_or, slice_index_or, append_assoc, append-nil, Option, Some, None, refl, sym, ◌∙◌, ap, subst, arith}
use Rattle.std.specs.Option.{option_to_list}
use Rattle.gps_lane.specs.Ends.{Putting, Taking}
use Rattle.gps_outside.specs.Counts.{Rose}
use Rattle.gps_outside.specs.Told.{Stream}
use Rattle.gps_outside.specs.Writes.{WritesAll}
use Rattle.hub_door.specs.Admissions.{Admissions, SessionLanes}
use Rattle.hub_promise.specs.Given.{TellsOnce}
use Rattle.hub_promise.proofs.Settling.{tells_once as once_of}
use Rattle.gps_lane.specs.Carried.{input_part}
use Rattle.gps_lane.specs.declared.piece.Ending.{Ending}
use Rattle.gps_lane.specs.declared.piece.Piece.{Piece}
use Rattle.serve_workers.specs.declared.writer.WriterEnd.{WriterEnd}
use Rattle.serve_workers.specs.declared.writer.WriterEnd.TheVariants.{Drained, WriteFault}
use Rattle.serve_workers.specs.Readings.{IsInputPiece, last_piece}
use Rattle.serve_workers.specs.declared.session.SessionLink.{SessionLink}
use Rattle.serve_workers.specs.declared.session.LinkDone.{LinkDone}
use Rattle.serve_workers.specs.Writers.{WriterView}
use Rattle.serve_workers.specs.Reading.{Reads, counts}
use Rattle.serve_workers.specs.Sessions.{SessionRuns, Wrote}
use Rattle.serve_end.proofs.Emptying.{wrote_item, wrote_less, wrote_none, wrote_part}
use Rattle.serve_end.proofs.Endings.{sessions_tell_last}
use Rattle.serve_door.specs.declared.seated.Seated.{Seated}
use Rattle.serve_door.specs.Doors.{AreSeated, EachLink, HaveLanes, HasNewLanes, lanes_of, link_at, links_at}
use Rattle.serve_door.specs.Released.{AreEndsOf, GotMore, WritesItem, WritesOn}

-- ---- which lanes are a session's

module _ {S K R : Type 0} where
  pub have_lanes : (P : SessionLink S K R → Type 0) (queue : ℕ) (links : List (SessionLink S K R)) (seat : Admissions) → AreSeated P queue links seat → HaveLanes links seat
  have_lanes P queue links seat seated = record { queue = queue; lanes = seated.lanes; unused = seated.unused }

  pub same_lanes : (links links' : List (SessionLink S K R)) (old new : Admissions) → HaveLanes links old → links' ≡ links → new ≡ old → HaveLanes links' new
  same_lanes links links' old new have same is = subst (HaveLanes links') (sym is) (subst (λ l. HaveLanes l old) (sym same) have)

  lanes_in : (queue : ℕ) (seated : List (Seated S K R)) (s : ℕ) (x : Seated S K R) (free : SessionLanes) → s < length seated
      → get_or (map (lanes_of queue) (links_at seated)) s free ≡ lanes_of queue (link_at (slice_index_or seated s x))
  lanes_in queue [] s x free there = absurd (omega arith)
  lanes_in queue (one ∷ seated) zero x free there = refl
  lanes_in queue (one ∷ seated) (suc s) x free there = lanes_in queue seated s x free (omega arith)

  unused_in : (seated : List (Seated S K R)) (s : ℕ) (x : Seated S K R) → s < length seated → EachLink HasNewLanes (links_at seated) → HasNewLanes (link_at (slice_index_or seated s x))
  unused_in [] s x there unused = absurd (omega arith)
  unused_in (one ∷ seated) zero x there unused = unused.0
  unused_in (one ∷ seated) (suc s) x there unused = unused_in seated s x (omega arith) unused.1

  as_many : (queue : ℕ) (seated : List (Seated S K R)) → length (map (lanes_of queue) (links_at seated)) ≡ length seated
  as_many queue [] = refl
  as_many queue (one ∷ seated) = ap suc (as_many queue seated)

  -- the session at a place was admitted with that number
  pub ends_at : (seated : List (Seated S K R)) (seat : Admissions) (s number : ℕ) (x : Seated S K R) → HaveLanes (links_at seated) seat → s < length seated
      → x ≡ slice_index_or seated s x → number ≡ s → AreEndsOf seat number (link_at x).items (link_at x).pieces
  ends_at seated seat s number x have there at is =
      let lanes : (free : SessionLanes) → get_or seat.links s free ≡ lanes_of have.queue (link_at x) =
      λ free. ap (λ (l : List SessionLanes). get_or l s free) (sym have.lanes) ∙ lanes_in have.queue seated s x free there ∙ ap (λ (y : Seated S K R). lanes_of have.queue (link_at y)) (sym at) in
      subst (λ n. AreEndsOf seat n (link_at x).items (link_at x).pieces) (sym is) (
      record {
        there = let n = as_many have.queue seated in let m = ap length have.lanes in omega (arith, n, m, there);
        outlet = λ free. sym (ap (λ (l : SessionLanes). l.outlet) (lanes free));
        input = λ free. sym (ap (λ (l : SessionLanes). l.input) (lanes free));
      }
      )

  pub unused_at : (seated : List (Seated S K R)) (seat : Admissions) (s : ℕ) (x : Seated S K R) → HaveLanes (links_at seated) seat → s < length seated
      → x ≡ slice_index_or seated s x → (link_at x).pieces.put ≡ []
  unused_at seated seat s x have there at =
      ap (λ (y : Seated S K R). (link_at y).pieces.put) at ∙ (unused_in seated s x there have.unused).1

pub outlet_still : (old new : Admissions) (number : ℕ) (x y : Taking (List ℕ)) → ((free : SessionLanes) → x.lane ≡ (get_or old.links number free).outlet) → y.lane ≡ x.lane → new ≡ old
    → (free : SessionLanes) → y.lane ≡ (get_or new.links number free).outlet
outlet_still old new number x y named same is free = same ∙ named free ∙ sym (ap (λ (a : Admissions). (get_or a.links number free).outlet) is)

pub input_still : (old new : Admissions) (number : ℕ) (x y : Putting Piece) → ((free : SessionLanes) → x.lane ≡ (get_or old.links number free).input) → y ≡ x → new ≡ old
    → (free : SessionLanes) → y.lane ≡ (get_or new.links number free).input
input_still old new number x y named same is free = ap (λ (p : Putting Piece). p.lane) same ∙ named free ∙ sym (ap (λ (a : Admissions). (get_or a.links number free).input) is)

-- ---- what is written of what is got

pub item_written : (item : List ℕ) (end : WriterEnd) (between after : Option (List ℕ)) (faults faults' : ℕ) → end ≡ Drained → WritesAll true item between after → faults' ≡ faults
    → WritesItem item end Drained between after faults faults'
item_written item end between after faults faults' is wrote same = record {
  wrote = λ rx mid before first so.
      wrote_item rx mid (record mid { got = mid.got ++ item ∷ [] }) item before between after first faults faults'
      (subst (λ (e : WriterEnd). Wrote e rx mid before between first faults) is so) refl wrote same;
}

pub item_cut : (item : List ℕ) (end : WriterEnd) (between after : Option (List ℕ)) (faults faults' : ℕ) → end ≡ Drained → WritesAll false item between after → faults ≤ faults'
    → Rose faults faults' → WritesItem item end WriteFault between after faults faults'
item_cut item end between after faults faults' is wrote stay rose = record {
  wrote = λ rx mid before first so.
      wrote_part rx mid (record mid { got = mid.got ++ item ∷ [] }) item before between after first faults faults'
      (subst (λ (e : WriterEnd). Wrote e rx mid before between first faults) is so) refl wrote stay rose;
}

pub item_skipped : (item : List ℕ) (end : WriterEnd) (between : Option (List ℕ)) (faults : ℕ) → end ≡ WriteFault → WritesItem item end WriteFault between between faults faults
item_skipped item end between faults is = record {
  wrote = λ rx mid before first so.
      wrote_less rx mid (record mid { got = mid.got ++ item ∷ [] }) (Some item) before between first faults
      (subst (λ (e : WriterEnd). Wrote e rx mid before between first faults) is so) refl;
}

-- ---- items that are dropped

pub got_none : (now : Taking (List ℕ)) → GotMore now now
got_none now = record { more = []; lane = refl; about = refl; gets = sym (append-nil now.got) }

pub got_item : (was now : Taking (List ℕ)) (item : Option (List ℕ)) → now ≡ record was { got = was.got ++ option_to_list item } → GotMore was now
got_item was now item is = record {
  more = option_to_list item;
  lane = ap (λ (x : Taking (List ℕ)). x.lane) is;
  about = ap (λ (x : Taking (List ℕ)). x.about) is;
  gets = ap (λ (x : Taking (List ℕ)). x.got) is;
}

pub got_on : (was mid now : Taking (List ℕ)) → GotMore was mid → GotMore mid now → GotMore was now
got_on was mid now one two = record {
  more = one.more ++ two.more;
  lane = two.lane ∙ one.lane;
  about = two.about ∙ one.about;
  gets = two.gets ∙ ap (λ l. l ++ two.more) one.gets ∙ append_assoc was.got one.more two.more;
}

-- a writer whose sink has failed gets items that it does not write
less_more : (rx mid : Taking (List ℕ)) (before between : Option (List ℕ)) (first faults : ℕ) (more : List (List ℕ))
    → Wrote WriteFault rx mid before between first faults → Wrote WriteFault rx (record mid { got = mid.got ++ more }) before between first faults
less_more rx mid before between first faults [] so =
    subst (λ l. Wrote WriteFault rx (record mid { got = l }) before between first faults) (sym (append-nil mid.got)) so
less_more rx mid before between first faults (item ∷ more) so =
    let next : Taking (List ℕ) = record mid { got = mid.got ++ item ∷ [] } in
    subst (λ l. Wrote WriteFault rx (record mid { got = l }) before between first faults) (append_assoc mid.got (item ∷ []) more)
    (less_more rx next before between first faults more (wrote_less rx mid next (Some item) before between first faults so refl))

module _ {K : Type 0} (written : K → Option (List ℕ)) (faults : K → ℕ) where
  pub skipped_on : (was now : WriterView K) → was.end ≡ WriteFault → GotMore was.items now.items → now.end ≡ was.end → now.sink ≡ was.sink → WritesOn written faults was now
  skipped_on was now failed got end sink = record {
    lane = got.lane;
    wrote = λ rx before first so.
        let P : Taking (List ℕ) → Type 0 = λ x. Wrote WriteFault rx x before (written was.sink) first (faults was.sink) in
        let failing : P was.items = subst (λ (e : WriterEnd). Wrote e rx was.items before (written was.sink) first (faults was.sink)) failed so in
        let more : P (record was.items { got = was.items.got ++ got.more }) = less_more rx was.items before (written was.sink) first (faults was.sink) got.more failing in
        let all : P now.items = subst P (λ i. record { lane = sym got.lane i; about = sym got.about i; got = sym got.gets i }) more in
        subst (λ (k : K). Wrote now.end rx now.items before (written k) first (faults k)) (sym sink)
        (subst (λ (e : WriterEnd). Wrote e rx now.items before (written was.sink) first (faults was.sink)) (sym (end ∙ failed)) all);
  }

  pub on_none : (was : WriterView K) → WritesOn written faults was was
  on_none was = record { lane = refl; wrote = λ rx before first so. so }

  pub on_more : (was mid now : WriterView K) → WritesOn written faults was mid → WritesOn written faults mid now → WritesOn written faults was now
  on_more was mid now one two = record { lane = two.lane ∙ one.lane; wrote = λ rx before first so. two.wrote rx before first (one.wrote rx before first so) }

  -- there was none to get
  pub none_on : (was : WriterView K) (items : Taking (List ℕ)) → items ≡ record was.items { got = was.items.got ++ [] } → WritesOn written faults was (record was { items = items })
  none_on was items is =
      let same : items ≡ was.items = is ∙ ap (λ l. record was.items { got = l }) (append-nil was.items.got) in
      subst (λ (x : Taking (List ℕ)). WritesOn written faults was (record was { items = x })) (sym same) (on_none was)

  pub one_on : (was now : WriterView K) (item : List ℕ) → now.items ≡ record was.items { got = was.items.got ++ item ∷ [] }
      → WritesItem item was.end now.end (written was.sink) (written now.sink) (faults was.sink) (faults now.sink) → WritesOn written faults was now
  one_on was now item items wrote = record {
    lane = ap (λ (x : Taking (List ℕ)). x.lane) items;
    wrote = λ rx before first so.
        subst (λ (x : Taking (List ℕ)). Wrote now.end rx x before (written now.sink) first (faults now.sink)) (sym items) (wrote.wrote rx was.items before first so);
  }

-- ---- what is known of what a session's threads handed back

few_last : (ending : Option Ending) → length (last_piece ending) ≤ 1
few_last None = omega arith
few_last (Some ending) = omega arith

module _ {S K R : Type 0} (content : S → Option Stream) (faults quiets : S → ℕ) (written : K → Option (List ℕ)) (sink_faults : K → ℕ) (link : SessionLink S K R) (run : LinkDone S K R) where
  pub tells_once : SessionRuns content faults quiets written sink_faults link run → link.pieces.put ≡ [] → TellsOnce run.reader.pieces.put
  tells_once runs none =
      let last = sessions_tell_last run.reader.ending link.pieces.put run.reader.pieces.put (content link.source) (content run.reader.source) runs.reads.hands none in
      once_of run.reader.pieces.put last.pieces (last_piece last.ending) last.puts (few_last last.ending) last.untold

  pub ends_of : (seat : Admissions) (number : ℕ) → SessionRuns content faults quiets written sink_faults link run → AreEndsOf seat number link.items link.pieces
      → AreEndsOf seat number run.writer.items run.reader.pieces
  ends_of seat number runs ends = record {
    there = ends.there;
    outlet = λ free. ap (λ (x : Taking (List ℕ)). x.lane) runs.wrote.lane ∙ ends.outlet free;
    input = λ free. ap (λ (x : Putting Piece). x.lane) runs.reads.lane ∙ ends.input free;
  }

  -- its reader's end met the other end, whereby the lane may have been closed, and the writing went on
  pub runs_on : (pieces : Putting Piece) (writer : WriterView K) → pieces ≡ record run.reader.pieces { is_open = pieces.is_open }
      → WritesOn written sink_faults run.writer writer → SessionRuns content faults quiets written sink_faults link run
      → SessionRuns content faults quiets written sink_faults link (record { reader = record run.reader { pieces = pieces }; writer = writer })
  runs_on pieces writer same on runs =
      let P : Putting Piece → Type 0 = λ p.
      Reads input_part IsInputPiece run.reader.failed run.reader.ending link.pieces p (content link.source) (content run.reader.source) (counts (faults link.source) (quiets link.source))
      (counts (faults run.reader.source) (quiets run.reader.source)) in
      let reads : P (record run.reader.pieces { is_open = pieces.is_open }) = record {
        hands = runs.reads.hands;
        lane = ap (λ (p : Putting Piece). record p { is_open = pieces.is_open }) runs.reads.lane;
        faults_stay = runs.reads.faults_stay;
        quiets_stay = runs.reads.quiets_stay;
        meets = runs.reads.meets;
      } in
      record { reads = subst P (sym same) reads; read = runs.read; wrote = on.wrote link.items (written link.sink) (sink_faults link.sink) runs.wrote }
