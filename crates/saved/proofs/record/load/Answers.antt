-- `saved::record::load` meets its contract: the length shows the form.
use Prim.Native.Nat.{ℕ}
use mathlib.Core.Path.{ap₂, ◌∙◌}
use Rattle.saved.specs.Record.{load_number_as, loaded_as, load_number, loaded}
use Rattle.saved.proofs.record.load.Goals as goal

pub returns : goal.returns
unfolding load_number loaded
returns c =
    let a = c.args in
    let form = c.width_of-width.ensures.value in
    let n = c.cells_for-n.ensures.value in record {
      card_value = c.load_as.ensures.card_value ∙ ap₂ (λ (m w : ℕ). loaded_as m w a.card a.bytes.now) n form;
      k_value = c.load_as.ensures.k_value ∙ ap₂ (λ (m w : ℕ). load_number_as m w a.bytes.now) n form;
    }
