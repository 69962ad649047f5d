-- Settings are valid where lines set them, and nowhere else; so a load is accepted only for settings that lines set.
use Prim.Native.Nat.{ℕ, ◌+◌, ◌≤◌}
use mathlib.Core.Path.{◌≡◌, refl, sym, ap, ◌∙◌}
use mathlib.Core.Bool.{Bool, true, ◌&&◌}
use mathlib.Core.List.{List, [], ◌∷◌}
use lib.Dec.{lit≤}
use lib.ListN.{take}
use Rattle.cells.specs.declared.cell.Cell.{Cell}
use Rattle.card.specs.declared.card.Card.{Card}
use Rattle.card.specs.declared.card.Connectors.{Connectors}
use Rattle.card.specs.Address.{cell_count, first_cell, first_connector}
use Rattle.card.specs.Fresh.{fresh_of}
use Rattle.card.specs.Connectors.{each, well_formed}
use Rattle.card.specs.Valid.{valid_settings, valid_card}
use Rattle.card.proofs.Settings.{valid-cleared}
use Rattle.saved.specs.Record.{load_number, loaded}
use Rattle.saved.proofs.Records.{loaded-valid}
use Rattle.lines.specs.Line.{shortest_reply, line_outcome}
use Rattle.calls.specs.Runs.{end_of}
use Rattle.calls.specs.Calls.{after_call, end}
use Rattle.wiring.specs.Wiring.{wiring_lines}
use Rattle.wiring.specs.Settable.{fed, line_calls, SetByLines, Settable, ValidIsSettable}
use Rattle.calls.proofs.Reached.{fresh-reached-valid}
use Rattle.wiring.proofs.Wired.{settable}

-- lines as calls leave what the lines leave
end-fed : (n : ℕ) (c : Card) (texts : List (List ℕ)) → end n c (line_calls texts) ≡ fed n shortest_reply 0 c texts
unfolding end_of after_call fed
end-fed n c [] = refl
end-fed n c (text ∷ texts) = end-fed n (line_outcome n c text shortest_reply 0).card texts

-- of a card of n cells, which are no fewer than presets set, and whose places end before those of the connectors
module _ (n : ℕ) (more : cell_count ≤ n) (apart : first_cell + n ≤ first_connector) where
  module _ (trigger : ℕ) (cells : List Cell) (connectors : Connectors) where
    pub set-by-lines : valid_settings n trigger cells connectors ≡ true → SetByLines n trigger cells connectors
    unfolding Settable SetByLines
    set-by-lines ok =
        let texts = wiring_lines trigger (take n cells) (each connectors) in
        let has = (settable n shortest_reply 0 trigger cells connectors apart (lit≤ tt) ok).1 in
        let same = end-fed n (fresh_of n) texts in
        (texts, rw same has)

    pub set-valid : SetByLines n trigger cells connectors → valid_settings n trigger cells connectors ≡ true
    unfolding SetByLines valid_card
    set-valid (texts, has) =
        let c = end n (fresh_of n) (line_calls texts) in
        let reached = fresh-reached-valid n more (line_calls texts) in
        ap (λ (b : Bool). well_formed connectors && b) (sym (valid-cleared n trigger c.cells cells (each connectors) has.cells))
        ∙ (rw (has.trigger, has.connectors) at reached)

  pub valid-is-settable : ValidIsSettable n
  unfolding ValidIsSettable
  valid-is-settable trigger cells connectors = (set-by-lines trigger cells connectors, set-valid trigger cells connectors)

  -- the settings of an accepted record
  pub loaded-settable : (c : Card) (bytes : List ℕ) → load_number n bytes ≡ 0
      → let d = loaded n c bytes in SetByLines n d.trigger d.cells d.connectors
  unfolding valid_card
  loaded-settable c bytes ok =
      let d = loaded n c bytes in
      set-by-lines d.trigger d.cells d.connectors (loaded-valid n c bytes ok)
