-- A started card is one that seventeen lines leave of a fresh one, by computation.
use mathlib.Core.Path.{◌≡◌, refl}
use Rattle.words.specs.Bits.{with_bit, word_of, bit_at}
use Rattle.words.specs.Listed.{listed}
use Rattle.text.specs.Digits.{value_by}
use Rattle.text.specs.Decimal.{is_digit, digits_of, leads, plain, number_in, number_at, decimal_from, decimal}
use Rattle.card.specs.Address.{cell_count}
use Rattle.card.specs.Fresh.{fresh_of}
use Rattle.card.specs.Connectors.{kind_at, source_at, with_kind, with_source}
use Rattle.card.specs.Edits.{move, current_connector, put_connectors, set_connector_type}
use Rattle.card.specs.Change.{changed}
use Rattle.card.specs.Valid.{permitted_base, bad_place, bad_connector_type, front_driven}
use Rattle.grammar.specs.Grammar.{is_word, is_whole, to_end, slot_of, pair_read, steps, pairs_of, cca_form, ccb_form}
use Rattle.grammar.specs.Grammar.{read_form, card_form, plain_form, addressed, parse}
use Rattle.lines.specs.Refusal.{refusal}
use Rattle.lines.specs.Line.{change_for, decision, decision_for, line_decision, line_outcome}
use Rattle.calls.specs.Runs.{end_of}
use Rattle.calls.specs.Calls.{after_call, end}
use Rattle.rack.specs.Rack.{start_card}
use Rattle.rack.specs.Cards.{start_lines}

pub start-reached : end cell_count (fresh_of cell_count) start_lines ≡ start_card cell_count
unfolding start_lines with_bit word_of bit_at listed value_by is_digit digits_of leads plain number_in number_at decimal_from decimal kind_at source_at with_kind
    with_source move current_connector put_connectors set_connector_type changed permitted_base bad_place bad_connector_type front_driven is_word is_whole to_end slot_of
    pair_read steps pairs_of cca_form ccb_form read_form card_form plain_form addressed parse refusal change_for
    decision decision_for line_decision line_outcome end_of after_call
start-reached = refl
