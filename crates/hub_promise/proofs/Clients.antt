-- Each session goes on being of its client: its lane's name stays, and more of its input is received.
use Rattle.std.proofs.Common.{◌≡◌, List, [], ◌∷◌, map, drop, refl, sym, ap, ◌∙◌, subst, Option}
use Rattle.std.specs.List.{AllZip}
use Rattle.atomic_table.specs.Seated.{TableId}
use Rattle.book_sessions.specs.MemberView.{MemberView}
use Rattle.gps_lane.specs.Ends.{Taking}
use Rattle.gps_lane.specs.Held.{AreDue}
use Rattle.gps_lane.specs.declared.piece.Piece.{Piece}
use Rattle.session_core.specs.declared.subject.Subject.{Subject}
use Rattle.session_core.specs.Naming.{OutletName, table_of}
use Rattle.hub_promise.specs.Keeping.{ServesClient}
use Rattle.hub_promise.specs.Parts.{Terms}

abbrev pub name_in : MemberView → OutletName
name_in a = a.session.name

abbrev name_or : OutletName → List OutletName → OutletName
name_or other [] = other
name_or other (name ∷ names) = name

abbrev later : List OutletName → List OutletName
later [] = []
later (name ∷ names) = names

-- of a session of the same name, with the same input
pub still_serves : (terms : Terms) (a b : MemberView) (x : Taking Piece) → b.session.name ≡ a.session.name → ServesClient terms a x → ServesClient terms b x
still_serves terms a b x same s = record { table = s.table; name = same ∙ s.name; heard = s.heard }

-- and with more of it
pub serves_on : (terms : Terms) (a b : MemberView) (x y : Taking Piece) → b.session.name ≡ a.session.name → y.about ≡ x.about → AreDue y.about y.got
    → ServesClient terms a x → ServesClient terms b y
serves_on terms a b x y same about heard s =
    subst (λ (about : Subject). ServesClient terms b (record y { about = about })) (sym about)
    (record { table = s.table; name = same ∙ s.name; heard = subst (λ (about : Subject). AreDue about y.got) about heard })

-- all sessions of the same names
pub clients_stay : (terms : Terms) (old new : List MemberView) (inputs : List (Taking Piece)) → map name_in new ≡ map name_in old
    → AllZip (ServesClient terms) old inputs → AllZip (ServesClient terms) new inputs
clients_stay terms [] [] inputs same all = all
clients_stay terms [] (b ∷ new) inputs same all = absurd cc
clients_stay terms (a ∷ old) [] inputs same all = absurd cc
clients_stay terms (a ∷ old) (b ∷ new) [] same all = all
clients_stay terms (a ∷ old) (b ∷ new) (x ∷ inputs) same all = (
  still_serves terms a b x (ap (name_or (name_in b)) same) all.0,
  clients_stay terms old new inputs (ap later same) all.1,
)

-- the tables of outlets of the same names
tables_in : (sessions : List MemberView) → map (λ (a : MemberView). table_of a.session.name) sessions ≡ map table_of (map name_in sessions)
tables_in [] = refl
tables_in (a ∷ sessions) = ap (λ (l : List (Option TableId)). table_of a.session.name ∷ l) (tables_in sessions)

pub tables_stay : (old new : List MemberView) → map name_in new ≡ map name_in old
    → map (λ (a : MemberView). table_of a.session.name) new ≡ map (λ (a : MemberView). table_of a.session.name) old
tables_stay old new same = tables_in new ∙ ap (map table_of) same ∙ sym (tables_in old)
