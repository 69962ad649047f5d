-- The set of a line grown in rounds, from the connector itself: every round adds the cells that
-- read what is found so far and the outputs that are driven from it. Where a round adds nothing,
-- what is found is the smallest set (law `settled-smallest`).
use Rattle.std.specs.Prelude.{ℕ, zero, suc, ◌^◌, ◌≡◌, cond, List, eqb, get_or}
use Rattle.std.specs.Int.Bits.{bit_or}
use Rattle.words.specs.Bits.{word_of}
use Rattle.cells.specs.declared.cell.Cell.{Cell}
use Rattle.card.specs.declared.card.Connector.{Connector}
use Rattle.card.specs.declared.card.Connectors.{Connectors}
use Rattle.card.specs.Address.{connector_count}
use Rattle.card.specs.Connectors.{push_pull_type, connector_at}
use Rattle.card.specs.Fresh.{no_cell}
use Rattle.survey.specs.Survey.{reads_set, driven_from, set_of}

-- what the set starts from: the connector alone, "unless it is push-pull"
unfoldable pub start_of : Connector → ℕ → ℕ
start_of c k = cond (eqb c.kind push_pull_type) 0 (2 ^ k)

module _ (n : ℕ) (cs : List Cell) (ds : Connectors) where
  -- the cells that read the set of two words, and the outputs that are driven from it
  unfoldable pub readers_of : (cells connectors : ℕ) → ℕ
  readers_of cells connectors = word_of (λ i. reads_set (set_of n cells connectors) (get_or cs i no_cell)) n

  unfoldable pub followers_of : (cells connectors : ℕ) → ℕ
  followers_of cells connectors = word_of (λ j. driven_from (set_of n cells connectors) (connector_at ds j)) connector_count

  -- one round
  abbrev pub grown : ℕ × ℕ → ℕ × ℕ
  grown w = (bit_or w.0 (readers_of w.0 w.1), bit_or w.1 (followers_of w.0 w.1))

  -- the two words after m rounds from connector k
  unfoldable pub rounds : (k m : ℕ) → ℕ × ℕ
  rounds k zero = (0, start_of (connector_at ds k) k)
  rounds k (suc m) = grown (rounds k m)

  -- m rounds find these words, and the next one adds nothing
  pub record Settles (k m cells connectors : ℕ) : Type 0 where
    pub found : rounds k m ≡ (cells, connectors)
    pub stays : grown (cells, connectors) ≡ (cells, connectors)
