-- Nothing wraps: with the most places and transitions their items have 16,384 bytes.
use Rattle.std.proofs.Common.{le_of_lt, arith}
use Rattle.sheet.specs.Laid.{weights_fit}
use Rattle.lookup.proofs.transition_at.Goals as goal

pub overflow_mul-result-2 : goal.overflow_mul-result-2
overflow_mul-result-2 c = omega (arith, weights_fit _ _ c.requires.0 (le_of_lt c.requires.1))

pub overflow_add-result : goal.overflow_add-result
overflow_add-result c = omega (arith, weights_fit _ _ c.requires.0 (le_of_lt c.requires.1))
