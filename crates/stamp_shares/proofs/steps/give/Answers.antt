use Rattle.std.proofs.Common.{◌≡◌, [], ◌∷◌, ap, ◌∙◌, arith}
use Rattle.atomic_table.specs.Table.{Me}
use Rattle.stamp_shares.specs.declared.view.SeatView.{SeatView}
use Rattle.stamp_shares.specs.Views.{gathering, giving, share_in}
use Rattle.stamp_shares.proofs.Rules.{gives_as, giving_to, takes_in, vacates}
use Rattle.stamp_shares.proofs.steps.give.Goals as goal

pub split_seat-vacant-requires : goal.split_seat-vacant-requires
split_seat-vacant-requires g c =
    (c.requires.giver.0, (let one = c.requires.one in omega arith), vacates _ _)

pub join_seat-requires : goal.join_seat-requires
join_seat-requires g c = (
  c.split_seat-vacant.ensures.0 ∙ c.requires.giver.0,
  ap (λ s. s.table_id) c.replace-held.ensures.value ∙ c.requires.share.0,
  ap (λ s. s.me.1) c.replace-held.ensures.value ∙ ap (λ (m : Me (Unit {0}) SeatView). m.1) c.requires.share.1,
  (let one = c.requires.one in omega arith),
  takes_in _ _ _ _,
)

pub split_seat-requires : goal.split_seat-requires
split_seat-requires g c =
    let taken : c.join_seat.new.seat.me ≡ (giving_to c.args.giver.now.me.0.given (share_in c.args.share.now.me.0 ∷ []), []) =
    c.join_seat.ensures.2
    ∙ ap (λ (m : Me (Unit {0}) SeatView). (gathering m.0 c.replace-held.result.me.0, m.1)) (c.split_seat-vacant.ensures.2 ∙ c.requires.giver.1)
    ∙ ap (λ (m : Me (Unit {0}) SeatView). (gathering (giving c.args.giver.now.me.0.given) m.0, [])) (ap (λ s. s.me) c.replace-held.ensures.value ∙ c.requires.share.1) in (
      c.join_seat.ensures.0 ∙ (c.split_seat-vacant.ensures.0 ∙ c.requires.giver.0),
      (let one = c.requires.one in omega arith),
      gives_as _ _ _ _ _ (ap (λ (m : Me (Unit {0}) SeatView). m.0) taken),
    )
