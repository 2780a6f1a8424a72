-- The laws of the packets of a list, for any items and for any head that is stable under more of them.
use Rattle.std.proofs.Common.{◌≡◌, ◌≤◌, ◌+◌, ◌-◌, ◌*◌, ℕ, zero, suc, List, [], ◌∷◌, ◌++◌, length, take, refl, sym, ap, arith}
use Rattle.std.proofs.lemmas.List.{take-append-le}
use Rattle.gps_report.specs.declared.packet.PacketKind.{PacketKind}
use Rattle.packet_cut.specs.declared.head.Head.{Head}
use Rattle.packet_cut.specs.declared.head.Head.TheVariants.{Packet, Pending, Junk}
use Rattle.packet_cut.specs.Packets.{Part, by_head, parts_from, rest_from}

-- what the head of a list is stays so under more items, but for a pending one, which is short
pub record IsStable {A : Type 0} (head : List A → Head) : Type 0 where
  pub packet_stays : (items more : List A) (kind : PacketKind) (n : ℕ) → head items ≡ Packet kind n → head (items ++ more) ≡ Packet kind n
  pub junk_stays : (items more : List A) → head items ≡ Junk → head (items ++ more) ≡ Junk
  pub packet_least : (items : List A) (kind : PacketKind) (n : ℕ) → head items ≡ Packet kind n → (6 ≤ n) × (n ≤ length items)
  pub pending_short : (items : List A) → head items ≡ Pending → length items ≤ 2055

-- one step of the rule at the head of a list
module _ {A : Type 0} (head : List A → Head) (item : A) (items : List A) where
  abbrev pub part_at : ℕ → PacketKind → ℕ → Part A
  part_at place kind n = record { kind = kind; start = place; first = item; items = take n (item ∷ items) }

  pub parts_packet : (place : ℕ) (kind : PacketKind) (n : ℕ) → head (item ∷ items) ≡ Packet kind n →
      parts_from head place 0 (item ∷ items) ≡ part_at place kind n ∷ parts_from head (place + 1) (n - 1) items
  unfolding parts_from
  parts_packet place kind n is = rw is refl

  pub parts_pending : (place : ℕ) → head (item ∷ items) ≡ Pending → parts_from head place 0 (item ∷ items) ≡ []
  unfolding parts_from
  parts_pending place is = rw is refl

  pub parts_junk : (place : ℕ) → head (item ∷ items) ≡ Junk → parts_from head place 0 (item ∷ items) ≡ parts_from head (place + 1) 0 items
  unfolding parts_from
  parts_junk place is = rw is refl

  pub rest_packet : (kind : PacketKind) (n : ℕ) → head (item ∷ items) ≡ Packet kind n → rest_from head 0 (item ∷ items) ≡ rest_from head (n - 1) items
  unfolding rest_from
  rest_packet kind n is = rw is refl

  pub rest_pending : head (item ∷ items) ≡ Pending → rest_from head 0 (item ∷ items) ≡ item ∷ items
  unfolding rest_from
  rest_pending is = rw is refl

  pub rest_junk : head (item ∷ items) ≡ Junk → rest_from head 0 (item ∷ items) ≡ rest_from head 0 items
  unfolding rest_from
  rest_junk is = rw is refl

module _ {A : Type 0} (head : List A → Head) (stable : IsStable head) where
  -- the packets and the rest of a longer list: those of the rest and what follows are added, from their place on
  pub record PacketsGoOn (place skip at : ℕ) (items more : List A) : Type 0 where
    pub parts : parts_from head place skip (items ++ more) ≡ parts_from head place skip items ++ parts_from head at 0 (rest_from head skip items ++ more)
    pub rest : rest_from head skip (items ++ more) ≡ rest_from head 0 (rest_from head skip items ++ more)

  step : (place at : ℕ) (item : A) (items more : List A) (h : Head) → head (item ∷ items) ≡ h →
      at + length (rest_from head 0 (item ∷ items)) ≡ place + length (item ∷ items) →
      ((skip : ℕ) → skip ≤ length items → at + length (rest_from head skip items) ≡ place + 1 + length items → PacketsGoOn (place + 1) skip at items more) →
      PacketsGoOn place 0 at (item ∷ items) more
  step place at item items more (Packet kind n) is same behind =
      let longer : head (item ∷ (items ++ more)) ≡ Packet kind n = stable.packet_stays (item ∷ items) more kind n is in
      let long : (6 ≤ n) × (n ≤ length (item ∷ items)) = stable.packet_least (item ∷ items) kind n is in
      let rest : rest_from head 0 (item ∷ items) ≡ rest_from head (n - 1) items = rest_packet head item items kind n is in
      let on : PacketsGoOn (place + 1) (n - 1) at items more = behind (n - 1) (omega arith) (omega (arith, ap length rest)) in
      let taken : take n (item ∷ (items ++ more)) ≡ take n (item ∷ items) = take-append-le n (item ∷ items) more (long.1) in
      record {
        parts = rw (parts_packet head item (items ++ more) place kind n longer, parts_packet head item items place kind n is, rest, taken, on.parts) refl;
        rest = rw (rest_packet head item (items ++ more) kind n longer, rest) (on.rest);
      }
  step place at item items more Pending is same behind =
      let rest : rest_from head 0 (item ∷ items) ≡ item ∷ items = rest_pending head item items is in
      let e : at ≡ place = omega (arith, ap length rest) in
      record {
        parts = rw (parts_pending head item items place is, rest, e) refl;
        rest = rw rest refl;
      }
  step place at item items more Junk is same behind =
      let longer : head (item ∷ (items ++ more)) ≡ Junk = stable.junk_stays (item ∷ items) more is in
      let rest : rest_from head 0 (item ∷ items) ≡ rest_from head 0 items = rest_junk head item items is in
      let on : PacketsGoOn (place + 1) 0 at items more = behind 0 (omega arith) (omega (arith, ap length rest)) in
      record {
        parts = rw (parts_junk head item (items ++ more) place longer, parts_junk head item items place is, rest) (on.parts);
        rest = rw (rest_junk head item (items ++ more) longer, rest) (on.rest);
      }

  pub goes_on : (place skip at : ℕ) (items more : List A) → skip ≤ length items → at + length (rest_from head skip items) ≡ place + length items →
      PacketsGoOn place skip at items more
  unfolding parts_from rest_from
  goes_on place zero at [] more inside same =
      let e : at ≡ place = omega arith in
      record { parts = ap (λ p. parts_from head p 0 more) (sym e); rest = refl }
  goes_on place (suc skip) at [] more inside same = absurd (omega arith)
  goes_on place (suc skip) at (item ∷ items) more inside same =
      let on : PacketsGoOn (place + 1) skip at items more = goes_on (place + 1) skip at items more (omega arith) (omega arith) in
      record { parts = on.parts; rest = on.rest }
  goes_on place zero at (item ∷ items) more inside same =
      step place at item items more (head (item ∷ items)) refl same (λ skip inside' same'. goes_on (place + 1) skip at items more inside' same')

  pub rest_short : (skip : ℕ) (items : List A) → length (rest_from head skip items) ≤ 2055
  unfolding rest_from
  rest_short zero [] = omega arith
  rest_short (suc skip) [] = omega arith
  rest_short (suc skip) (item ∷ items) = rest_short skip items
  rest_short zero (item ∷ items) = short (head (item ∷ items)) refl (λ skip. rest_short skip items)
    where
      short : (h : Head) → head (item ∷ items) ≡ h → ((skip : ℕ) → length (rest_from head skip items) ≤ 2055) →
          length (by_head (λ kind n. rest_from head (n - 1) items) (item ∷ items) (rest_from head 0 items) h) ≤ 2055
      short (Packet kind n) is behind = behind (n - 1)
      short Pending is behind = stable.pending_short (item ∷ items) is
      short Junk is behind = behind 0

  -- packets do not overlap, and each has at least 6 items
  pub parts_few : (place skip : ℕ) (items : List A) → skip ≤ length items → 6 * length (parts_from head place skip items) + skip ≤ length items
  unfolding parts_from
  parts_few place zero [] inside = omega arith
  parts_few place (suc skip) [] inside = absurd (omega arith)
  parts_few place (suc skip) (item ∷ items) inside = omega (arith, parts_few (place + 1) skip items (omega arith))
  parts_few place zero (item ∷ items) inside = few (head (item ∷ items)) refl (λ skip inside'. parts_few (place + 1) skip items inside')
    where
      few : (h : Head) → head (item ∷ items) ≡ h → ((skip : ℕ) → skip ≤ length items → 6 * length (parts_from head (place + 1) skip items) + skip ≤ length items) →
          6 * length (by_head (λ kind n. part_at head item items place kind n ∷ parts_from head (place + 1) (n - 1) items) [] (parts_from head (place + 1) 0 items) h) + 0
          ≤ length (item ∷ items)
      few (Packet kind n) is behind =
          let long : (6 ≤ n) × (n ≤ length (item ∷ items)) = stable.packet_least (item ∷ items) kind n is in
          omega (arith, long, behind (n - 1) (omega (arith, long)))
      few Pending is behind = omega arith
      few Junk is behind = omega (arith, behind 0 (omega arith))

  -- the rest is the end of the list
  pub rest_end : (skip : ℕ) (items : List A) → length (rest_from head skip items) ≤ length items
  unfolding rest_from
  rest_end zero [] = omega arith
  rest_end (suc skip) [] = omega arith
  rest_end (suc skip) (item ∷ items) = omega (arith, rest_end skip items)
  rest_end zero (item ∷ items) = within (head (item ∷ items)) (λ skip. rest_end skip items)
    where
      within : (h : Head) → ((skip : ℕ) → length (rest_from head skip items) ≤ length items) →
          length (by_head (λ kind n. rest_from head (n - 1) items) (item ∷ items) (rest_from head 0 items) h) ≤ length (item ∷ items)
      within (Packet kind n) behind = omega (arith, behind (n - 1))
      within Pending behind = omega arith
      within Junk behind = omega (arith, behind 0)
