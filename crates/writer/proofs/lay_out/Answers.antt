-- The starts are numbers that fit (`weights_fit`).
use Rattle.std.proofs.Common.{arith, refl}
use Rattle.sheet.specs.Laid.{weights_fit}
use Rattle.writer.proofs.lay_out.Goals as goal

pub overflow_mul-events_at-2 : goal.overflow_mul-events_at-2
overflow_mul-events_at-2 c = omega (arith, weights_fit _ _ c.requires.places_le_most_places.0 c.requires.places_le_most_places.1)

pub overflow_add-events_at : goal.overflow_add-events_at
overflow_add-events_at c = omega (arith, weights_fit _ _ c.requires.places_le_most_places.0 c.requires.places_le_most_places.1)

pub overflow_add-result : goal.overflow_add-result
overflow_add-result c = omega (arith, weights_fit _ _ c.requires.places_le_most_places.0 c.requires.places_le_most_places.1)

pub returns : goal.returns
returns c =
    let known = c.requires in
    let most = weights_fit _ _ known.places_le_most_places.0 known.places_le_most_places.1 in record {
      value = refl;
      within_limits = (
        record { places = known.places_le_most_places.0; transitions = known.places_le_most_places.1; events = known.events_le_most_events.0; pairs = known.events_le_most_events.1 },
        record { places = omega arith; transitions = omega arith; events = omega (arith, most); pairs = omega (arith, most) },
      );
    }
