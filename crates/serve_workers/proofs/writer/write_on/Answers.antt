use Rattle.std.proofs.Common.{ℕ, List, [], Some, None, refl, ◌∙◌, ap}
use Rattle.std.specs.List.{concat}
use Rattle.std.specs.Option.{option_to_list}
use Rattle.gps_lane.specs.Ends.{Taking}
use Rattle.serve_workers.proofs.GoingOn.{goes_on, has_all, has_begun, has_buffer, has_but_none, has_over, has_sent_buffer, has_sent_over, may_send_on}
use Rattle.serve_workers.proofs.Rounds.{all_written, begun_with, buffer_part_written, buffer_written, none_written, over_part_written, over_written}
use Rattle.serve_workers.proofs.writer.write_on.Goals as goal

pub rounds-init : goal.rounds-init
rounds-init g c = record {
  client = refl;
  has = has_but_none _ c.args.items.now.got _ c.requires.room c.requires.goes_on.wrote;
  writes = none_written _ _ _ c.requires.room;
  lane = refl;
  faults = refl;
}

pub write_piece-requires : goal.write_piece-requires
write_piece-requires g c = record {
  allowed = may_send_on g.K.ClientSink.asks g.K.ClientSink.written g.K.ClientSink.allows c.args.sink.now c.rounds.sink c.args.items.now c.gather-over.new.items
      _ (concat (option_to_list c.gather-over.result)) c.requires.goes_on c.rounds.invariant.client
      (c.gather-over.ensures.lane ∙ ap (λ (end : Taking (List ℕ)). record end { got = c.gather-over.new.items.got }) c.rounds.invariant.lane) c.show_due.ensures
      (has_buffer c.gather-over.result _ _ _ _ _ _ c.as_slice.ensures.value c.gather-over.ensures.gathers c.rounds.invariant.has);
}

pub write_piece-requires-in-Some-over : goal.write_piece-requires-in-Some-over
write_piece-requires-in-Some-over g c = record {
  allowed = may_send_on g.K.ClientSink.asks g.K.ClientSink.written g.K.ClientSink.allows c.args.sink.now c.write_piece.new.sink c.args.items.now c.gather-over.new.items
      _ [] c.requires.goes_on (c.if-not-write_piece.ensures.client ∙ c.rounds.invariant.client)
      (c.gather-over.ensures.lane ∙ ap (λ (end : Taking (List ℕ)). record end { got = c.gather-over.new.items.got }) c.rounds.invariant.lane) c.show_due.ensures
      (has_over c.in-Some-over.item _ c.gather-over.new.items.got _ c.bytes.ensures (has_sent_buffer (Some c.in-Some-over.item) _ _ _ _ _ _ _ _ c.as_slice.ensures.value refl c.in-Some-over.ensures.gathers c.rounds.invariant.has
      c.if-not-write_piece.ensures.bytes c.if-not-write_piece.ensures.unmodelled));
}

pub returns-then-not-write_piece-clause-writes : goal.returns-then-not-write_piece-clause-writes
returns-then-not-write_piece-clause-writes g c =
    buffer_part_written _ _ _ _ _ _ _ _ _ _ c.as_slice.ensures.value c.rounds.invariant.writes c.gather-over.ensures.gathers
    c.if-not-write_piece.ensures.bytes

pub rounds-preserved-then-begin : goal.rounds-preserved-then-begin
rounds-preserved-then-begin g c = record {
  client = c.if-not-write_piece.ensures.client ∙ c.rounds.invariant.client;
  has = has_begun c.in-Some-over.item _ c.gather-over.new.items.got _ (c.if-begin.ensures.put refl)
      (has_sent_buffer (Some c.in-Some-over.item) _ _ _ _ _ _ _ _ c.as_slice.ensures.value refl c.in-Some-over.ensures.gathers c.rounds.invariant.has
      c.if-not-write_piece.ensures.bytes c.if-not-write_piece.ensures.unmodelled);
  writes = begun_with c.in-Some-over.item _ _ _ _ _ (c.if-begin.ensures.put refl)
      (buffer_written (Some c.in-Some-over.item) _ _ _ _ _ _ _ _ _ _ c.as_slice.ensures.value refl c.rounds.invariant.writes c.in-Some-over.ensures.gathers
      c.if-not-write_piece.ensures.bytes);
  lane = c.gather-over.ensures.lane ∙ ap (λ (end : Taking (List ℕ)). record end { got = c.gather-over.new.items.got }) c.rounds.invariant.lane;
  faults = c.if-not-write_piece.ensures.fails_only refl ∙ c.rounds.invariant.faults;
}

pub returns-then-not-write_piece-2-clause-writes : goal.returns-then-not-write_piece-2-clause-writes
returns-then-not-write_piece-2-clause-writes g c =
    over_part_written c.in-Some-over.item _ _ _ _ _ _ c.bytes.ensures
    (buffer_written (Some c.in-Some-over.item) _ _ _ _ _ _ _ _ _ _ c.as_slice.ensures.value refl c.rounds.invariant.writes c.in-Some-over.ensures.gathers
    c.if-not-write_piece.ensures.bytes)
    c.if-not-write_piece-2.ensures.bytes

pub rounds-preserved-in-Some-over : goal.rounds-preserved-in-Some-over
rounds-preserved-in-Some-over g c = record {
  client = c.if-not-write_piece-2.ensures.client ∙ c.if-not-write_piece.ensures.client ∙ c.rounds.invariant.client;
  has = has_sent_over c.in-Some-over.item _ _ c.gather-over.new.items.got _ _ c.bytes.ensures (c.if-begin.ensures.empty refl)
      (has_sent_buffer (Some c.in-Some-over.item) _ _ _ _ _ _ _ _ c.as_slice.ensures.value refl c.in-Some-over.ensures.gathers c.rounds.invariant.has
      c.if-not-write_piece.ensures.bytes c.if-not-write_piece.ensures.unmodelled)
      c.if-not-write_piece-2.ensures.bytes c.if-not-write_piece-2.ensures.unmodelled;
  writes = over_written c.in-Some-over.item _ _ _ _ _ _ _ c.bytes.ensures (c.if-begin.ensures.empty refl)
      (buffer_written (Some c.in-Some-over.item) _ _ _ _ _ _ _ _ _ _ c.as_slice.ensures.value refl c.rounds.invariant.writes c.in-Some-over.ensures.gathers
      c.if-not-write_piece.ensures.bytes)
      c.if-not-write_piece-2.ensures.bytes;
  lane = c.gather-over.ensures.lane ∙ ap (λ (end : Taking (List ℕ)). record end { got = c.gather-over.new.items.got }) c.rounds.invariant.lane;
  faults = c.if-not-write_piece-2.ensures.fails_only refl ∙ c.if-not-write_piece.ensures.fails_only refl ∙ c.rounds.invariant.faults;
}

pub returns-then-closed-clause-writes : goal.returns-then-closed-clause-writes
returns-then-closed-clause-writes g c =
    all_written [] _ _ _ _ refl
    (buffer_written None _ _ _ [] _ _ _ _ _ _ c.as_slice.ensures.value refl c.rounds.invariant.writes c.in-None-over.ensures.gathers
    c.if-not-write_piece.ensures.bytes)

pub rounds-preserved-then-nothing : goal.rounds-preserved-then-nothing
rounds-preserved-then-nothing g c = record {
  client = c.if-not-write_piece.ensures.client ∙ c.rounds.invariant.client;
  has = has_sent_buffer None _ _ _ _ _ _ _ _ c.as_slice.ensures.value c.clear.ensures.items c.in-None-over.ensures.gathers c.rounds.invariant.has
      c.if-not-write_piece.ensures.bytes c.if-not-write_piece.ensures.unmodelled;
  writes = buffer_written None _ _ _ _ _ _ _ _ _ _ c.as_slice.ensures.value c.clear.ensures.items c.rounds.invariant.writes c.in-None-over.ensures.gathers
      c.if-not-write_piece.ensures.bytes;
  lane = c.gather-over.ensures.lane ∙ ap (λ (end : Taking (List ℕ)). record end { got = c.gather-over.new.items.got }) c.rounds.invariant.lane;
  faults = c.if-not-write_piece.ensures.fails_only refl ∙ c.rounds.invariant.faults;
}

pub rounds-preserved : goal.rounds-preserved
rounds-preserved g c = record {
  client = c.if-not-write_piece.ensures.client ∙ c.rounds.invariant.client;
  has = has_sent_buffer None _ _ _ _ _ _ _ _ c.as_slice.ensures.value c.clear.ensures.items c.in-None-over.ensures.gathers c.rounds.invariant.has
      c.if-not-write_piece.ensures.bytes c.if-not-write_piece.ensures.unmodelled;
  writes = buffer_written None _ _ _ _ _ _ _ _ _ _ c.as_slice.ensures.value c.clear.ensures.items c.rounds.invariant.writes c.in-None-over.ensures.gathers
      c.if-not-write_piece.ensures.bytes;
  lane = c.gather-over.ensures.lane ∙ ap (λ (end : Taking (List ℕ)). record end { got = c.gather-over.new.items.got }) c.rounds.invariant.lane;
  faults = c.if-not-write_piece.ensures.fails_only refl ∙ c.rounds.invariant.faults;
}

pub returns-then-closed-clause-goes_on : goal.returns-then-closed-clause-goes_on
returns-then-closed-clause-goes_on g c = λ _.
    goes_on g.K.ClientSink.asks g.K.ClientSink.written g.K.ClientSink.allows c.args.sink.now _ c.args.items.now c.gather-over.new.items c.requires.goes_on
    (c.if-not-write_piece.ensures.client ∙ c.rounds.invariant.client)
    (c.gather-over.ensures.lane ∙ ap (λ (end : Taking (List ℕ)). record end { got = c.gather-over.new.items.got }) c.rounds.invariant.lane)
    (has_all [] c.gather-over.new.items.got _ refl (has_sent_buffer None _ _ _ _ _ _ _ _ c.as_slice.ensures.value refl c.in-None-over.ensures.gathers c.rounds.invariant.has
    c.if-not-write_piece.ensures.bytes c.if-not-write_piece.ensures.unmodelled))
