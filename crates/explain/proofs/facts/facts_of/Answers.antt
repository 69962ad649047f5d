-- `explain::facts::facts_of` meets its contract: `run_after` keeps the card, and event and length are copied.
use mathlib.Core.Path.{refl}
use Rattle.explain.proofs.facts.facts_of.Goals as goal

pub returns : goal.returns
returns c = record {
  card_value = cc;
  event_value = refl;
  len_value = refl;
}
