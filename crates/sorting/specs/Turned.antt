-- A plan with its pairs turned: what is before in it is after in the plan.
use Rattle.plan.specs.Net.{Plan}

-- the plan with each pair the other way round
abbrev pub turned : Plan → Plan
turned P = record { events = P.events; label = P.label; pairs = P.pairs; earlier = P.later; later = P.earlier }
