-- The scan reads exactly the lines of edges: what it answers is the edge of the line's parts, and each line of parts is read.
use Rattle.std.proofs.Common.{ℕ, suc, pos, ◌≡◌, ◌+◌, ◌<◌, ◌≤◌, ◌↔◌, Bool, true, false, cond, ◌&&◌, List, [], ◌∷◌, ◌++◌, length, get_or, take, drop, refl, sym, ap, ◌∙◌, arith, nat_le, nat_lt, nat_eq, Option, Some, None, codes, lit<, inl, inr, ◌⊎◌}
use Rattle.std.specs.List.{list_all, prefix_len}
use Rattle.std.specs.Str.Parse.{digits_value}
use Rattle.std.specs.Cmp.Lexicographic.{bytes_decides}
use Rattle.std.proofs.Math.Seq.{take-append_seam, drop-append_seam, drop-cons}
use Rattle.std.proofs.lemmas.List.{take-append-drop, length-drop, length-append}
use Rattle.std.proofs.lemmas.List.Sums.{prefix_len_stops}
use Rattle.std.proofs.lemmas.Bool.{and_parts, and_from, eqb-true, eq-eqb}
use Rattle.std.proofs.lemmas.Bool.Decides.{nat_tests}
use Rattle.gps_report.specs.declared.edge.Edge.{Edge}
use Rattle.gps_report.specs.declared.edge.EdgeKind.{EdgeKind}
use Rattle.gps_report.specs.declared.edge.EdgeKind.TheVariants.{Assert, Clear}
use Rattle.pps_edges.specs.EdgeLine.{is_digit, Parts, IsNumber, AreParts, word, edge_from, IsEdgeLine, IsLineOf}
use Rattle.pps_edges.specs.Scan.{is_not, up_to_first, past_first, number_in, nine_in, captured, capture_in, begins, edge_in}

-- up to the first mark, and past it

digit_is_not : (mark byte : ℕ) → mark < 48 → is_digit byte ≡ true → is_not mark byte ≡ true
digit_is_not mark byte low is = grind (arith, nat_tests)

run : (mark : ℕ) (xs rest : List ℕ) → mark < 48 → list_all is_digit xs ≡ true → prefix_len (is_not mark) (xs ++ mark ∷ rest) ≡ length xs
run mark [] rest low all = let e : is_not mark mark ≡ false = grind (arith, nat_tests) in ap (λ b. cond b (1 + prefix_len (is_not mark) rest) 0) e
run mark (x ∷ xs) rest low all =
    let p : (is_digit x ≡ true) × (list_all is_digit xs ≡ true) = and_parts _ _ all in
    let e : is_not mark x ≡ true = digit_is_not mark x low p.0 in
    let h : prefix_len (is_not mark) (xs ++ mark ∷ rest) ≡ length xs = run mark xs rest low p.1 in
    ap (λ b. cond b (1 + prefix_len (is_not mark) (xs ++ mark ∷ rest)) 0) e ∙ omega (arith, h)

up_to_run : (mark : ℕ) (xs rest : List ℕ) → mark < 48 → list_all is_digit xs ≡ true → up_to_first mark (xs ++ mark ∷ rest) ≡ xs
unfolding up_to_first
up_to_run mark xs rest low all = rw (run mark xs rest low all) (take-append_seam xs (mark ∷ rest))

past_run : (mark : ℕ) (xs rest : List ℕ) → mark < 48 → list_all is_digit xs ≡ true → past_first mark (xs ++ mark ∷ rest) ≡ rest
unfolding past_first
past_run mark xs rest low all = rw (run mark xs rest low all) (ap (λ t. drop 1 t) (drop-append_seam xs (mark ∷ rest)))

is_mark : (mark byte : ℕ) → is_not mark byte ≡ false → byte ≡ mark
is_mark mark byte e = grind (arith, nat_tests)

split : (k : ℕ) (text : List ℕ) → k < length text → text ≡ take k text ++ get_or text k 0 ∷ drop 1 (drop k text)
split k text within =
    let e : drop k text ≡ get_or text k 0 ∷ drop (suc k) text = drop-cons text k 0 within in
    sym (take-append-drop k text) ∙ ap (λ t. take k text ++ t) (e ∙ ap (λ t. get_or text k 0 ∷ drop 1 t) (sym e))

parted : (mark : ℕ) (text : List ℕ) → 0 < length (past_first mark text) → text ≡ up_to_first mark text ++ mark ∷ past_first mark text
unfolding up_to_first past_first
parted mark text some =
    let within : prefix_len (is_not mark) text < length text =
    omega (arith, length-drop 1 (drop (prefix_len (is_not mark) text) text), length-drop (prefix_len (is_not mark) text) text) in
    let e : get_or text (prefix_len (is_not mark) text) 0 ≡ mark = is_mark mark _ (prefix_len_stops (is_not mark) text 0 within) in
    split _ text within ∙ ap (λ b. take (prefix_len (is_not mark) text) text ++ b ∷ drop 1 (drop (prefix_len (is_not mark) text) text)) e

-- numbers

chosen : {X : Type 0} (b : Bool) (x y : X) → cond b (Some x) None ≡ Some y → (b ≡ true) × (x ≡ y)
chosen true x y e = (refl, cc)
chosen false x y e = cc

number_read : (text : List ℕ) (n : ℕ) → number_in text ≡ Some n → IsNumber 10 text × (digits_value 10 text ≡ n)
unfolding number_in
number_read text n e =
    let c : ((nat_lt 0 (length text) && nat_le (length text) 10 && list_all is_digit text) ≡ true) × (digits_value 10 text ≡ n) = chosen _ _ _ e in
    let p : ((nat_lt 0 (length text) && nat_le (length text) 10) ≡ true) × (list_all is_digit text ≡ true) = and_parts _ _ c.0 in
    let q : (nat_lt 0 (length text) ≡ true) × (nat_le (length text) 10 ≡ true) = and_parts _ _ p.0 in
    (record { some = grind (arith, nat_tests); few = grind (arith, nat_tests); digits = p.1 }, c.1)

nine_read : (text : List ℕ) (n : ℕ) → nine_in text ≡ Some n → IsNumber 9 text × (length text ≡ 9) × (digits_value 10 text ≡ n)
unfolding nine_in
nine_read text n e =
    let c : ((nat_eq (length text) 9 && list_all is_digit text) ≡ true) × (digits_value 10 text ≡ n) = chosen _ _ _ e in
    let p : (nat_eq (length text) 9 ≡ true) × (list_all is_digit text ≡ true) = and_parts _ _ c.0 in
    let q : length text ≡ 9 = eqb-true _ _ p.0 in
    (record { some = omega arith; few = omega arith; digits = p.1 }, q, c.1)

read_number : (text : List ℕ) → IsNumber 10 text → number_in text ≡ Some (digits_value 10 text)
unfolding number_in
read_number text is =
    let some : nat_lt 0 (length text) ≡ true = let h = is.some in grind (arith, nat_tests) in
    let few : nat_le (length text) 10 ≡ true = let h = is.few in grind (arith, nat_tests) in
    let t : (nat_lt 0 (length text) && nat_le (length text) 10 && list_all is_digit text) ≡ true = and_from _ _ (and_from _ _ some few) is.digits in
    ap (λ b. cond b (Some (digits_value 10 text)) None) t

read_nine : (text : List ℕ) → IsNumber 9 text → length text ≡ 9 → nine_in text ≡ Some (digits_value 10 text)
unfolding nine_in
read_nine text is nine =
    let t : (nat_eq (length text) 9 && list_all is_digit text) ≡ true = and_from _ _ (eq-eqb _ _ nine) is.digits in
    ap (λ b. cond b (Some (digits_value 10 text)) None) t

-- what follows the word

abbrev numbered : List ℕ → List ℕ → List ℕ → List ℕ
numbered seconds nanoseconds sequence = seconds ++ 46 ∷ (nanoseconds ++ 35 ∷ sequence)

capture_reads : (p : Parts) → AreParts p → capture_in p.kind (numbered p.seconds p.nanoseconds p.sequence) ≡ Some (edge_from p)
unfolding capture_in
capture_reads p are =
    let behind : List ℕ = p.nanoseconds ++ 35 ∷ p.sequence in
    let a : up_to_first 46 (p.seconds ++ 46 ∷ behind) ≡ p.seconds = up_to_run 46 p.seconds behind (lit< tt) are.seconds.digits in
    let b : past_first 46 (p.seconds ++ 46 ∷ behind) ≡ behind = past_run 46 p.seconds behind (lit< tt) are.seconds.digits in
    let c : up_to_first 35 behind ≡ p.nanoseconds = up_to_run 35 p.nanoseconds p.sequence (lit< tt) are.nanoseconds.digits in
    let d : past_first 35 behind ≡ p.sequence = past_run 35 p.nanoseconds p.sequence (lit< tt) are.nanoseconds.digits in
    let n : nat_le (digits_value 10 p.sequence) 4_294_967_295 ≡ true = let h = are.fits in grind (arith, nat_tests) in
    simp (a, b, c, d, read_number p.seconds are.seconds, read_nine p.nanoseconds are.nanoseconds are.nine, read_number p.sequence are.sequence)
    (ap (λ b. cond b (Some (edge_from p)) None) n)

record Three (kind : EdgeKind) (s n q : Option ℕ) (edge : Edge) : Type 0 where
  sec : ℕ
  nsec : ℕ
  seq : ℕ
  sec_is : s ≡ Some sec
  nsec_is : n ≡ Some nsec
  seq_is : q ≡ Some seq
  fits : seq ≤ 4_294_967_295
  is : edge ≡ record { kind = kind; seq = seq; at = record { sec = pos sec; nsec = nsec } }

three : (kind : EdgeKind) (s n q : Option ℕ) (edge : Edge) → captured kind s n q ≡ Some edge → Three kind s n q edge
three kind (Some x) (Some y) (Some z) edge e =
    let c : (nat_le z 4_294_967_295 ≡ true) × (record { kind = kind; seq = z; at = record { sec = pos x; nsec = y } } ≡ edge) = chosen _ _ _ e in
    record { sec = x; nsec = y; seq = z; sec_is = refl; nsec_is = refl; seq_is = refl; fits = grind (arith, nat_tests); is = sym c.1 }
three kind (Some x) (Some y) None edge e = cc
three kind (Some x) None q edge e = cc
three kind None n q edge e = cc

abbrev edge_with : EdgeKind → ℕ → ℕ → ℕ → Edge
edge_with kind sec nsec seq = record { kind = kind; seq = seq; at = record { sec = pos sec; nsec = nsec } }

made : (kind : EdgeKind) {a b c d e f : ℕ} → a ≡ b → c ≡ d → e ≡ f → edge_with kind a c e ≡ edge_with kind b d f
made kind {a} {b} {c} {d} {e} {f} p q r =
    ap (λ x. edge_with kind x c e) p ∙ ap (λ x. edge_with kind b x e) q ∙ ap (λ x. edge_with kind b d x) r

record Captured (kind : EdgeKind) (text : List ℕ) (edge : Edge) : Type 0 where
  parts : Parts
  kind_is : parts.kind ≡ kind
  are : AreParts parts
  spelled : text ≡ numbered parts.seconds parts.nanoseconds parts.sequence
  is : edge ≡ edge_from parts

captures : (kind : EdgeKind) (text : List ℕ) (edge : Edge) → capture_in kind text ≡ Some edge → Captured kind text edge
unfolding capture_in
captures kind text edge e =
    let seconds : List ℕ = up_to_first 46 text in
    let rest : List ℕ = past_first 46 text in
    let t : Three kind (number_in seconds) (nine_in (up_to_first 35 rest)) (number_in (past_first 35 rest)) edge = three kind _ _ _ edge e in
    let s : IsNumber 10 seconds × (digits_value 10 seconds ≡ t.sec) = number_read _ _ t.sec_is in
    let n : IsNumber 9 (up_to_first 35 rest) × (length (up_to_first 35 rest) ≡ 9) × (digits_value 10 (up_to_first 35 rest) ≡ t.nsec) = nine_read _ _ t.nsec_is in
    let q : IsNumber 10 (past_first 35 rest) × (digits_value 10 (past_first 35 rest) ≡ t.seq) = number_read _ _ t.seq_is in
    let inner : rest ≡ up_to_first 35 rest ++ 35 ∷ past_first 35 rest = parted 35 rest q.0.some in
    let some : 0 < length rest = omega (arith, ap length inner, length-append (up_to_first 35 rest) (35 ∷ past_first 35 rest)) in
    let outer : text ≡ seconds ++ 46 ∷ rest = parted 46 text some in
    record {
      parts = record { kind = kind; seconds = seconds; nanoseconds = up_to_first 35 rest; sequence = past_first 35 rest };
      kind_is = refl;
      are = record { seconds = s.0; nanoseconds = n.0; nine = n.1; sequence = q.0; fits = omega (arith, t.fits, q.1) };
      spelled = outer ∙ ap (λ r. seconds ++ 46 ∷ r) inner;
      is = t.is ∙ made kind (sym s.1) (sym n.2) (sym q.1);
    }

-- the whole line

branch : {X : Type 0} (b : Bool) (x y z : X) → cond b x y ≡ z → ((b ≡ true) × (x ≡ z)) ⊎ ((b ≡ false) × (y ≡ z))
branch true x y z e = inl (refl, e)
branch false x y z e = inr (refl, e)

behind_word : (word line : List ℕ) → begins word line ≡ true → line ≡ word ++ drop (length word) line
unfolding begins
behind_word word line h =
    let e : take (length word) line ≡ word = (bytes_decides (take (length word) line) word).0 h in
    sym (take-append-drop (length word) line) ∙ ap (λ t. t ++ drop (length word) line) e

with_word : (kind : EdgeKind) (line text : List ℕ) (edge : Edge) → line ≡ word kind ++ text → Captured kind text edge → IsLineOf edge line
with_word kind line text edge e c = (
  c.parts,
  c.are,
  e ∙ ap (λ t. word kind ++ t) c.spelled ∙ ap (λ k. word k ++ numbered c.parts.seconds c.parts.nanoseconds c.parts.sequence) (sym c.kind_is),
  c.is,
)

pub reads : (line : List ℕ) (edge : Edge) → edge_in line ≡ Some edge → IsLineOf edge line
unfolding edge_in
reads line edge e =
    let other : Option Edge = cond (begins (codes "clear ") line) (capture_in Clear (drop 6 line)) None in
    elim (branch (begins (codes "assert ") line) (capture_in Assert (drop 7 line)) other (Some edge) e) [
      | inl h ↦ with_word Assert line (drop 7 line) edge (behind_word (codes "assert ") line h.0) (captures Assert (drop 7 line) edge h.1)
      | inr h ↦ elim (branch (begins (codes "clear ") line) (capture_in Clear (drop 6 line)) None (Some edge) h.1) [
        | inl g ↦ with_word Clear line (drop 6 line) edge (behind_word (codes "clear ") line g.0) (captures Clear (drop 6 line) edge g.1)
        | inr g ↦ cc
      ]
    ]

worded : (kind : EdgeKind) (text : List ℕ) → edge_in (word kind ++ text) ≡ capture_in kind text
unfolding edge_in begins
worded Assert text = refl
worded Clear text = refl

pub is_read : (line : List ℕ) (edge : Edge) → IsLineOf edge line → edge_in line ≡ Some edge
is_read line edge is =
    let p : Parts = is.0 in
    ap edge_in is.2 ∙ worded p.kind (numbered p.seconds p.nanoseconds p.sequence) ∙ capture_reads p is.1 ∙ ap (λ e. Some e) (sym is.3)

pub exact : (line : List ℕ) (result : Option Edge) → result ≡ edge_in line → (edge : Edge) → (result ≡ Some edge) ↔ IsLineOf edge line
exact line result e edge = (λ h. reads line edge (sym e ∙ h), λ h. e ∙ is_read line edge h)

none_left : (line : List ℕ) (o : Option Edge) → edge_in line ≡ o → (¬ IsEdgeLine line) → o ≡ None
none_left line None e isnt = refl
none_left line (Some edge) e isnt = let is : IsLineOf edge line = reads line edge e in absurd (isnt (is.0, is.1, is.2))

pub none : (line : List ℕ) (result : Option Edge) → result ≡ edge_in line → (result ≡ None) ↔ (¬ IsEdgeLine line)
none line result e = (
  λ h is. let r : edge_in line ≡ Some (edge_from is.0) = is_read line (edge_from is.0) (is.0, is.1, is.2, refl) in cc,
  λ isnt. e ∙ none_left line (edge_in line) refl isnt,
)
