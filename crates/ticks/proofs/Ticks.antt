-- Laws of the cells in a tick: the word of outputs is built bit by bit.
use Prim.Native.Nat.{ℕ, zero, suc, ◌+◌, ◌*◌, ◌^◌}
use mathlib.Core.Path.{◌≡◌, refl, ap}
use mathlib.Core.Bool.{Bool, false, cond}
use mathlib.Core.List.{List}
use Rattle.words.proofs.Laws.{built-same}
use Rattle.words.specs.Bits.{bit_at, bit_number, word_of}
use Rattle.cells.specs.declared.cell.Cell.{Cell}
use Rattle.card.specs.declared.card.Connectors.{Connectors}
use Rattle.card.specs.Address.{connector_count}
use Rattle.card.specs.Connectors.{is_output, kind_at, source_at}
use Rattle.ticks.specs.declared.view.Wires.{Wires}
use Rattle.ticks.specs.Levels.{driven_at, driven_word, pulled_word, levels_from, lines_of}
use Rattle.ticks.proofs.Views.{reads-built}
use Rattle.ticks.specs.Tick.{outputs_below, turn_of}

module _ (n : ℕ) (full : Bool) (cells : List Cell) (edited : ℕ) (w : Wires) where
  abbrev pub out_at : ℕ → Bool
  out_at i = (turn_of n full cells edited w i).out

  pub outputs-built : (i : ℕ) → outputs_below n full cells edited w i ≡ word_of out_at i
  unfolding outputs_below word_of
  outputs-built zero = refl
  outputs-built (suc i) = ap (λ (x : ℕ). x + bit_number (out_at i) * 2 ^ i) (outputs-built i)

-- the connectors read the words of two views as the views
pub lines-built : (f g : ℕ → Bool) (d : Connectors) (sample : ℕ) → lines_of (bit_at (word_of f 64)) (bit_at (word_of g 64)) d sample ≡ lines_of f g d sample
unfolding lines_of driven_word
lines-built f g d sample =
    let same = built-same (driven_at (bit_at (word_of f 64)) (bit_at (word_of g 64)) d) (driven_at f g d) connector_count
    (λ k h. ap (λ (b : Bool). cond (is_output (kind_at d k)) b false) (reads-built f g (source_at d k))) in
    λ i. record { driven = same i; pulled = pulled_word d (same i); levels = levels_from d.push_pull d.open_drain (same i) sample }
