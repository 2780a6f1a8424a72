use Rattle.gps_serve.proofs.scope.in_scope.Goals as goal

-- what the closure sends, and what it shares, in the order of the generics
pub scoped-requires : goal.scoped-requires
scoped-requires g c = record {
  at = λ a. (
    record { owned = c.type_bounds.send-S.owned; leaving = λ k x w. tt },
    record { owned = c.type_bounds.send-K.owned; leaving = λ k x w. tt },
    record { owned = c.type_bounds.send-G.owned; leaving = λ k x w. tt },
    record { owned = c.type_bounds.send-C.owned; leaving = λ k x w. tt },
    record { owned = c.type_bounds.send-J.owned; leaving = λ k x w. tt },
    record { owned = c.type_bounds.send-D.owned; leaving = λ k x w. tt },
    c.type_bounds.send-R,
    record { shared = c.type_bounds.sync-J.shared },
    record { shared = c.type_bounds.sync-D.shared },
    c.type_bounds.sync-R,
  );
}
