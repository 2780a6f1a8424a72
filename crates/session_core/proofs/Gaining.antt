-- What a call on a session gains, and that the session still holds.
use Rattle.std.proofs.Common.{◌≡◌, ◌≤◌, ◌⊎◌, inl, inr, ⊎_elim, ℕ, false, ◌==◌, ◌||◌, List, [], ◌∷◌, ◌++◌, length, drop, Option, Some, None, refl, sym, ◌∙◌, ap, subst, le_trans, le_refl, append-nil, append_assoc, lit<, arith}
use Rattle.std.proofs.lemmas.List.{length-append}
use Rattle.gps_report.specs.declared.policy.Policy.{Policy}
use Rattle.gps_report.specs.declared.report.Report.{Report}
use Rattle.session_core.specs.declared.mark.Close.{Close}
use Rattle.session_core.specs.declared.mark.Close.TheVariants.{Overrun}
use Rattle.session_core.specs.declared.mark.Mark.{Mark}
use Rattle.session_core.specs.declared.outlet.Push.{Push}
use Rattle.session_core.specs.declared.outlet.Push.TheVariants.{Done, Full}
use Rattle.session_core.specs.Naming.{OutletName}
use Rattle.session_core.specs.Pushing.{MatchPush}
use Rattle.session_core.specs.SessionView.{SessionView, allowing, fresh, given, replied, closed_at, turned, turned_marks, turned_closing, last_place}
use Rattle.session_core.specs.Stretches.{Stretch, mark_of, selected, items_to, end_of, session_items, AreInOrder, last_watched, answer_stretch}
use Rattle.session_core.specs.Holding.{Selection, IsSuffix, AreReplied, Agrees, Holding, SessionGains, stretches_left}
use Rattle.session_core.proofs.Intervals.{placed_within, order_longer, order_marked, watched_marked, replied_marked}
use Rattle.session_core.proofs.Growth.{items_stay, items_grow, items_marked}
use Rattle.std.proofs.lemmas.List.{map-append}

-- one is a suffix of the other
abbrev Overlap : List (List ℕ) → List (List ℕ) → Type 0
Overlap kept items = IsSuffix kept items ⊎ IsSuffix items kept

suffix_more : (part whole more : List (List ℕ)) → IsSuffix part whole → IsSuffix (part ++ more) (whole ++ more)
suffix_more part whole more suffix = (suffix.0, ap (λ l. l ++ more) suffix.1 ∙ append_assoc suffix.0 part more)

overlap_more : (kept items more : List (List ℕ)) → Overlap kept items → Overlap (kept ++ more) (items ++ more)
overlap_more kept items more both =
    ⊎_elim (λ s. inl (suffix_more kept items more s)) (λ s. inr (suffix_more items kept more s)) both

overlap_shorter : (kept items : List (List ℕ)) → Overlap kept items → Overlap (drop 1 kept) items
overlap_shorter [] items both = both
overlap_shorter (first ∷ kept) items both = ⊎_elim (λ s. inl (behind s.0 s.1)) (λ s. within s.0 s.1) both
  where
    behind : (front : List (List ℕ)) → items ≡ front ++ first ∷ kept → IsSuffix kept items
    behind front e = (front ++ first ∷ [], e ∙ sym (append_assoc front (first ∷ []) kept))

    within : (front : List (List ℕ)) → first ∷ kept ≡ front ++ items → Overlap kept items
    within [] e = inl (first ∷ [], sym e)
    within (x ∷ front) e = inr (front, ap (drop 1) e)

module _ (lines : Selection) where
  ending : (closing : Option (ℕ × Close)) (history : List Report) → closing ≡ None → end_of closing history ≡ length history
  ending closing history none = ap (λ c. end_of c history) none

  -- a line more, at the reports that select it
  pub grown : (history more : List Report) (s : SessionView) (n : ℕ) (gained : List (List ℕ)) (stretches : List Stretch) → s.closing ≡ None
      → gained ≡ selected lines s.policy more → Holding lines history s stretches
      → SessionGains lines history (history ++ more) s (record s { kept = s.kept ++ gained; items = n }) stretches stretches gained
  grown history more s n gained [] is_open chosen holding =
      let none : length s.marks ≡ 0 = ap length (sym holding.agrees.marks) in
      absurd (omega (arith, none, holding.opened is_open))
  grown history more s n gained (stretch ∷ rest) is_open chosen holding =
      let agrees = holding.agrees in
      let short = ending s.closing history is_open in
      let long = ending s.closing (history ++ more) is_open in
      let longer : length history ≤ length (history ++ more) = omega (arith, length-append history more) in
      let InOrder : ℕ → Type 0 = λ end. AreInOrder end (stretch ∷ rest) in
      let order : InOrder (length history) = subst InOrder short agrees.order in
      let items : session_items lines s.closing (stretch ∷ rest) (history ++ more) ≡ session_items lines s.closing (stretch ∷ rest) history ++ gained =
      ap (λ end. items_to lines end (stretch ∷ rest) (history ++ more)) long
      ∙ items_grow lines stretch rest history more order
      ∙ ap (λ end. items_to lines end (stretch ∷ rest) history ++ selected lines (last_watched stretch.policy rest) more) (sym short)
      ∙ ap (λ policy. session_items lines s.closing (stretch ∷ rest) history ++ selected lines policy more) agrees.policy
      ∙ ap (λ l. session_items lines s.closing (stretch ∷ rest) history ++ l) (sym chosen) in
      let Inside : ℕ → Type 0 = λ end. end ≤ length (history ++ more) in
      let Over : List (List ℕ) → Type 0 = λ l. Overlap (s.kept ++ gained) l in
      record {
        kept = refl;
        items = items;
        holding = record {
          agrees = record {
            marks = agrees.marks;
            replies = agrees.replies;
            order = subst InOrder (sym long) (order_longer (length history) (length (history ++ more)) (stretch ∷ rest) longer order);
            within = subst Inside (sym long) (le_refl (length (history ++ more)));
            policy = agrees.policy;
            kept = subst Over (sym items) (overlap_more s.kept (session_items lines s.closing (stretch ∷ rest) history) gained agrees.kept);
          };
          opened = holding.opened;
        };
      }

  pub unselected : (history more : List Report) (s : SessionView) (stretches : List Stretch) → s.closing ≡ None
      → selected lines s.policy more ≡ [] → Holding lines history s stretches → SessionGains lines history (history ++ more) s s stretches stretches []
  unselected history more s stretches is_open none holding =
      let P : List (List ℕ) → Type 0 = λ kept. SessionGains lines history (history ++ more) s (record s { kept = kept; items = s.items }) stretches stretches [] in
      subst P (append-nil s.kept) (grown history more s s.items [] stretches is_open (sym none) holding)

  -- a closing at the end of the history; reports after it add nothing
  pub ended : (place : ℕ) (why : Close) (history more : List Report) (s : SessionView) (stretches : List Stretch) → s.closing ≡ None → length history ≡ place
      → Agrees lines history s stretches → SessionGains lines history (history ++ more) s (closed_at place why s) stretches stretches []
  ended place why history more s stretches is_open at agrees =
      let here : end_of s.closing history ≡ place = ending s.closing history is_open ∙ at in
      let inside : place ≤ length history = omega (arith, at) in
      let longer : place ≤ length (history ++ more) = omega (arith, at, length-append history more) in
      let InOrder : ℕ → Type 0 = λ end. AreInOrder end stretches in
      let order : AreInOrder place stretches = subst InOrder here agrees.order in
      let same : items_to lines place stretches (history ++ more) ≡ session_items lines s.closing stretches history =
      items_stay lines place stretches history more inside order ∙ ap (λ end. items_to lines end stretches history) (sym here) in
      let Over : List (List ℕ) → Type 0 = λ l. Overlap s.kept l in
      record {
        kept = sym (append-nil s.kept);
        items = same ∙ sym (append-nil (session_items lines s.closing stretches history));
        holding = record {
          agrees = record {
            marks = agrees.marks;
            replies = agrees.replies;
            order = order;
            within = longer;
            policy = agrees.policy;
            kept = subst Over (sym same) agrees.kept;
          };
          opened = λ none. cc;
        };
      }

  -- reports after the closing place add nothing
  pub over : (closing : ℕ × Close) (history more : List Report) (s : SessionView) (stretches : List Stretch) → s.closing ≡ Some closing
      → Agrees lines history s stretches → SessionGains lines history (history ++ more) s s stretches stretches []
  over closing history more s stretches is_closed agrees =
      let end : (h : List Report) → end_of s.closing h ≡ closing.0 = λ h. ap (λ c. end_of c h) is_closed in
      let inside : closing.0 ≤ length history = let P : ℕ → Type 0 = λ n. n ≤ length history in subst P (end history) agrees.within in
      let longer : closing.0 ≤ length (history ++ more) = omega (arith, inside, length-append history more) in
      let InOrder : ℕ → Type 0 = λ n. AreInOrder n stretches in
      let order : AreInOrder closing.0 stretches = subst InOrder (end history) agrees.order in
      let Inside : ℕ → Type 0 = λ n. n ≤ length (history ++ more) in
      let same : session_items lines s.closing stretches (history ++ more) ≡ session_items lines s.closing stretches history =
      ap (λ n. items_to lines n stretches (history ++ more)) (end (history ++ more))
      ∙ items_stay lines closing.0 stretches history more inside order
      ∙ ap (λ n. items_to lines n stretches history) (sym (end history)) in
      let Over : List (List ℕ) → Type 0 = λ l. Overlap s.kept l in
      record {
        kept = sym (append-nil s.kept);
        items = same ∙ sym (append-nil (session_items lines s.closing stretches history));
        holding = record {
          agrees = record {
            marks = agrees.marks;
            replies = agrees.replies;
            order = subst InOrder (sym (end (history ++ more))) order;
            within = subst Inside (sym (end (history ++ more))) longer;
            policy = agrees.policy;
            kept = subst Over (sym same) agrees.kept;
          };
          opened = λ none. let never : None ≡ Some closing = sym none ∙ is_closed in cc;
        };
      }

  -- a mark at the end of the history, with its reply
  pub answered : (place : ℕ) (policy : Policy) (item : List ℕ) (history : List Report) (s : SessionView) (stretches : List Stretch) → s.closing ≡ None
      → length history ≡ place → Agrees lines history s stretches
      → SessionGains lines history history s (replied place policy item s) stretches (stretches ++ answer_stretch place policy item ∷ []) (item ∷ [])
  answered place policy item history s stretches is_open at agrees =
      let last = answer_stretch place policy item in
      let here : place ≡ end_of s.closing history = sym (ending s.closing history is_open ∙ at) in
      let items : session_items lines s.closing (stretches ++ last ∷ []) history ≡ session_items lines s.closing stretches history ++ item ∷ [] =
      items_marked lines (end_of s.closing history) stretches last history here in
      let Over : List (List ℕ) → Type 0 = λ l. Overlap (s.kept ++ item ∷ []) l in
      let Replied : List Mark → Type 0 = λ marks. AreReplied ((length marks == 0) || s.answered) (stretches ++ last ∷ []) in
      record {
        kept = refl;
        items = items;
        holding = record {
          agrees = record {
            marks = map-append mark_of stretches (last ∷ []) ∙ ap (λ l. l ++ mark_of last ∷ []) agrees.marks;
            replies = subst Replied agrees.marks (replied_marked s.answered stretches last refl agrees.replies);
            order = order_marked (end_of s.closing history) stretches last here agrees.order;
            within = agrees.within;
            policy = watched_marked policy stretches last;
            kept = subst Over (sym items) (overlap_more s.kept (session_items lines s.closing stretches history) (item ∷ []) agrees.kept);
          };
          opened = λ none. omega (arith, length-append s.marks (record { place = place; policy = policy } ∷ []));
        };
      }

  left : (s : SessionView) (closing : Option (ℕ × Close))
      → Holding lines [] (record s { marks = turned_marks closing s.policy; answered = false; closing = turned_closing closing }) (stretches_left closing s.policy)
  left s None = record {
    agrees = record { marks = refl; replies = (refl, refl); order = (le_refl 0, tt); within = le_refl 0; policy = refl; kept = inr (s.kept, sym (append-nil s.kept)) };
    opened = λ none. lit< tt;
  }
  left s (Some closing) = record {
    agrees = record { marks = refl; replies = tt; order = tt; within = le_refl 0; policy = refl; kept = inr (s.kept, sym (append-nil s.kept)) };
    opened = λ none. cc;
  }

  pub turned_holds : (s : SessionView) → Holding lines [] (turned s) (stretches_left s.closing s.policy)
  turned_holds s = left s s.closing

  -- the last mark is within the history
  pub marks_within : (history : List Report) (s : SessionView) (stretches : List Stretch) → Agrees lines history s stretches
      → last_place 0 s.marks ≤ length history
  marks_within history s stretches agrees =
      let P : List Mark → Type 0 = λ marks. last_place 0 marks ≤ length history in
      subst P agrees.marks (le_trans (placed_within (end_of s.closing history) stretches agrees.order) agrees.within)

  pub fresh_agrees : (history : List Report) (name : OutletName) (cap : ℕ) (kept : List (List ℕ)) → Agrees lines history (fresh name cap kept) []
  fresh_agrees history name cap kept = record {
    marks = refl;
    replies = tt;
    order = tt;
    within = le_refl (length history);
    policy = refl;
    kept = inr (kept, sym (append-nil kept));
  }

  pub taken : (history : List Report) (s : SessionView) (stretches : List Stretch) → Holding lines history s stretches
      → Holding lines history (record s { kept = drop 1 s.kept }) stretches
  taken history s stretches holding = let agrees = holding.agrees in record {
    agrees = record {
      marks = agrees.marks;
      replies = agrees.replies;
      order = agrees.order;
      within = agrees.within;
      policy = agrees.policy;
      kept = overlap_shorter s.kept (session_items lines s.closing stretches history) agrees.kept;
    };
    opened = holding.opened;
  }

  pub allowed : (most : ℕ) (history : List Report) (s : SessionView) (stretches : List Stretch) → Agrees lines history s stretches
      → Agrees lines history (allowing most s) stretches
  allowed most history s stretches agrees = record {
    marks = agrees.marks;
    replies = agrees.replies;
    order = agrees.order;
    within = agrees.within;
    policy = agrees.policy;
    kept = agrees.kept;
  }

  pub roomier : (history : List Report) (s : SessionView) (spare : ℕ) (stretches : List Stretch) → Holding lines history s stretches
      → Holding lines history (record s { spare = spare }) stretches
  roomier history s spare stretches holding = let agrees = holding.agrees in record {
    agrees = record {
      marks = agrees.marks;
      replies = agrees.replies;
      order = agrees.order;
      within = agrees.within;
      policy = agrees.policy;
      kept = agrees.kept;
    };
    opened = holding.opened;
  }

-- by the answer of a push
pub reply_gains : (place : ℕ) (policy : Policy) (item : List ℕ) (old new : SessionView) (result : Push) → old.closing ≡ None
    → MatchPush result (new ≡ replied place policy item old) (new ≡ closed_at place Overrun old)
    → (lines : Selection) (history : List Report) (stretches : List Stretch) → length history ≡ place → Agrees lines history old stretches
    → MatchPush result (SessionGains lines history history old new stretches (stretches ++ answer_stretch place policy item ∷ []) (item ∷ []))
    (SessionGains lines history history old new stretches stretches [])
reply_gains place policy item old new Done is_open now lines history stretches at agrees =
    let P : SessionView → Type 0 = λ s. SessionGains lines history history old s stretches (stretches ++ answer_stretch place policy item ∷ []) (item ∷ []) in
    subst P (sym now) (answered lines place policy item history old stretches is_open at agrees)
reply_gains place policy item old new Full is_open now lines history stretches at agrees =
    let P : List Report → Type 0 = λ h. SessionGains lines history h old (closed_at place Overrun old) stretches stretches [] in
    let Q : SessionView → Type 0 = λ s. SessionGains lines history history old s stretches stretches [] in
    subst Q (sym now) (subst P (append-nil history) (ended lines place Overrun history [] old stretches is_open at agrees))

pub report_gains : (place : ℕ) (item : List ℕ) (old new : SessionView) (result : Push) → old.closing ≡ None
    → MatchPush result (new ≡ given item old) (new ≡ closed_at place Overrun old)
    → (lines : Selection) (history : List Report) (report : Report) (stretches : List Stretch) → length history ≡ place
    → lines old.policy report ≡ item ∷ [] → Holding lines history old stretches
    → MatchPush result (SessionGains lines history (history ++ report ∷ []) old new stretches stretches (item ∷ []))
    (SessionGains lines history (history ++ report ∷ []) old new stretches stretches [])
report_gains place item old new Done is_open now lines history report stretches at chosen holding =
    let P : SessionView → Type 0 = λ s. SessionGains lines history (history ++ report ∷ []) old s stretches stretches (item ∷ []) in
    let more : item ∷ [] ≡ selected lines old.policy (report ∷ []) = sym (append-nil (lines old.policy report) ∙ chosen) in
    subst P (sym now) (grown lines history (report ∷ []) old (given item old).items (item ∷ []) stretches is_open more holding)
report_gains place item old new Full is_open now lines history report stretches at chosen holding =
    let Q : SessionView → Type 0 = λ s. SessionGains lines history (history ++ report ∷ []) old s stretches stretches [] in
    subst Q (sym now) (ended lines place Overrun history (report ∷ []) old stretches is_open at holding.agrees)

pub close_gains : (place : ℕ) (why : Close) (old new : SessionView) → old.closing ≡ None → new ≡ closed_at place why old
    → (lines : Selection) (history : List Report) (stretches : List Stretch) → length history ≡ place → Agrees lines history old stretches
    → SessionGains lines history history old new stretches stretches []
close_gains place why old new is_open now lines history stretches at agrees =
    let P : List Report → Type 0 = λ h. SessionGains lines history h old (closed_at place why old) stretches stretches [] in
    let Q : SessionView → Type 0 = λ s. SessionGains lines history history old s stretches stretches [] in
    subst Q (sym now) (subst P (append-nil history) (ended lines place why history [] old stretches is_open at agrees))

pub turned_as : (lines : Selection) (old new : SessionView) → new ≡ turned old → Holding lines [] new (stretches_left old.closing old.policy)
turned_as lines old new now = let P : SessionView → Type 0 = λ s. Holding lines [] s (stretches_left old.closing old.policy) in subst P (sym now) (turned_holds lines old)

pub fresh_as : (lines : Selection) (history : List Report) (name : OutletName) (cap : ℕ) (kept : List (List ℕ)) (new : SessionView) → new ≡ fresh name cap kept → Agrees lines history new []
fresh_as lines history name cap kept new now = let P : SessionView → Type 0 = λ s. Agrees lines history s [] in subst P (sym now) (fresh_agrees lines history name cap kept)

pub taken_as : (lines : Selection) (history : List Report) (stretches : List Stretch) (old new : SessionView) → new ≡ record old { kept = drop 1 old.kept }
    → Holding lines history old stretches → Holding lines history new stretches
taken_as lines history stretches old new now holding = let P : SessionView → Type 0 = λ s. Holding lines history s stretches in subst P (sym now) (taken lines history old stretches holding)

-- one call after another
pub gains_joined : (lines : Selection) (first second third : List Report) (old mid now : SessionView) (before between after : List Stretch) (one two : List (List ℕ))
    → SessionGains lines first second old mid before between one → SessionGains lines second third mid now between after two
    → SessionGains lines first third old now before after (one ++ two)
gains_joined lines first second third old mid now before between after one two early late = record {
  kept = late.kept ∙ ap (λ l. l ++ two) early.kept ∙ append_assoc old.kept one two;
  items =
      late.items
      ∙ ap (λ l. l ++ two) early.items
      ∙ append_assoc (session_items lines old.closing before first) one two;
  holding = late.holding;
}
