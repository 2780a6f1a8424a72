-- A link that is dropped for a bound.
use Rattle.std.proofs.Common.{◌≡◌, ◌≤◌, ◌⊎◌, inl, inr, ℕ, Bool, List, [], ◌∷◌, map, length, suc, refl, sym, ◌∙◌, ap, arith}
use Rattle.gps_outside.specs.Counts.{one_more}
use Rattle.hub_door.specs.Admissions.{Admissions}
use Rattle.serve_workers.specs.declared.session.SessionLink.{SessionLink}
use Rattle.serve_floor.specs.Admitting.{DropsOne}
use Rattle.serve_door.specs.declared.seated.Seated.{Seated}
use Rattle.serve_door.specs.Doors.{AreSeated, Deals, Drops, Way, lanes_of, links_at, tally, way_of}
use Rattle.serve_door.proofs.Seating.{same_links}

map_length : {A B : Type 0} (f : A → B) (xs : List A) → length (map f xs) ≡ length xs
map_length f [] = refl
map_length f (x ∷ xs) = ap suc (map_length f xs)

module _ {S K R : Type 0} (P : SessionLink S K R → Type 0) (queue : ℕ) where
  -- no more sessions are held than were admitted
  pub seats : (seated : List (Seated S K R)) (seat : Admissions) (held : ℕ) → AreSeated P queue (links_at seated) seat → held ≤ length seated → held ≤ length seat.links
  seats seated seat held are few =
      let n = map_length (lanes_of queue) (links_at seated) in
      let m = map_length (λ (x : Seated S K R). x.attended) seated in
      let same = ap length are.lanes in
      omega (arith, n, m, same, few)

  -- the sessions are the same
  pub dropped_still : (links links' : List (SessionLink S K R)) (held : ℕ) (old new : Admissions) → AreSeated P queue links old → links' ≡ links → DropsOne held old new
      → AreSeated P queue links' new
  dropped_still links links' held old new are same one = same_links P queue links links' old new are same (ap (λ (a : Admissions). a.links) one.list)

  pub deals_dropped : (links links' : List (SessionLink S K R)) (way : Way S K) (held count full full' : ℕ) (memory memory' : Bool) (old new : Admissions) → AreSeated P queue links old
      → links' ≡ links → held ≡ count → full' ≡ one_more full → memory' ≡ memory → DropsOne held old new
      → Deals count way (map way_of links) (map way_of links') (tally old.drops full memory) (tally new.drops full' memory')
  deals_dropped links links' way held count full full' memory memory' old new are same_links same_count counted same one =
      let n = map_length (lanes_of queue) links in
      let m = map_length (λ (x : SessionLink S K R). way_of x) links in
      let all = ap length are.lanes in
      let opened = one.opened in
      inr (inl (
        ap (map way_of) same_links,
        counted,
        same,
        record {
          drop = one.drop;
          is = record {
            bound = one.bound;
            some = let some = one.some in omega (arith, n, m, all, opened, some);
            opened = omega (arith, n, m, all, opened);
          };
          held_is = one.held_is ∙ same_count;
          list = ap (λ (a : Admissions). a.drops) one.list;
        },
      ))
