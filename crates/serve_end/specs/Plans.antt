-- Which plans can be served.
use Rattle.std.specs.Prelude.{◌≡◌, ◌≤◌, length}
use Rattle.gps_fixed.specs.Limits.{most_history, most_queue}
use Rattle.serve_end.specs.declared.plan.Plan.{Plan}

-- each device has an input, and may have a place of edges; the numbers are in their ranges
pub record IsPlan (plan : Plan) : Type 0 where
  pub inputs : length plan.inputs.items ≡ length plan.names
  pub edges : length plan.edges.items ≡ length plan.names
  pub queue_low : 1 ≤ plan.queue
  pub queue_high : plan.queue ≤ most_queue
  pub limit_low : 1 ≤ plan.limit
  pub limit_high : plan.limit ≤ most_history
  pub wait : plan.wait ≤ 64
  pub tries : plan.tries ≤ 1000000
