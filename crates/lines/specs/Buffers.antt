-- Document 01, row 1 of "When the card says no", by the lengths of the two buffers, and document
-- 02's "a store of that size", 308, or 516 on thirty-two cells: lines to a fresh card, by
-- computation. With them the longest reply, which the shortest reply buffer holds, and what a line
-- leaves of buffers that are longer.
use Rattle.std.specs.Prelude.{ℕ, ◌≡◌, refl, List, [], ◌∷◌, ◌++◌, map, length, replicate}
use Prim.Native.String.{String}
use Rattle.words.specs.Listed.{listed}
use Rattle.text.specs.Digits.{value_by}
use Rattle.text.specs.Decimal.{is_digit, digits_of, leads, plain, number_in, number_at, decimal_from, decimal}
use Rattle.text.specs.Written.{bytes_of}
use Rattle.cells.specs.Table.{row_of}
use Rattle.card.specs.Connectors.{kind_at, source_at, with_kind, with_source, each, from_each, well_formed}
use Rattle.words.specs.Bits.{bit_at, word_of}
use Rattle.card.specs.declared.card.Card.{Card}
use Rattle.card.specs.Address.{cell_count, cell_room}
use Rattle.card.specs.Context.{config_shown}
use Rattle.card.specs.Edits.{current_cell, current_connector, put_cell, typed, set_type, configured_state, configured, set_config}
use Rattle.card.specs.Change.{changed}
use Rattle.card.specs.Fresh.{fresh, fresh_of}
use Rattle.card.specs.Valid.{bad_config, no_config}
use Rattle.grammar.specs.Grammar.{is_word, is_whole, to_end, slot_of, cca_form, read_form, card_form, plain_form, addressed, parse}
use Rattle.lines.specs.Refusal.{refusal}
use Rattle.lines.specs.Line.{ending, shortest_reply, change_for, response_to, decision, decision_for, line_decision}
use Rattle.lines.specs.Line.{line_outcome, reply_of, line_reply, line_result}

-- a line, the lengths of the reply buffer and of the store; its number, and the length of its reply
pub record Row : Type 0 where
  pub text : String
  pub reply : ℕ
  pub store : ℕ
  pub k : ℕ
  pub len : ℕ

abbrev row : String → (reply store k len : ℕ) → Row
row text reply store k len = record { text = text; reply = reply; store = store; k = k; len = len }

-- each length at its limit and one below, with the others at theirs; a line to another card, one
-- that saves nothing and one of no form
abbrev rows : List Row
rows =
    row "36SS Z" 0 0 1 0
    ∷ row "36SS Z" 15 308 1 0
    ∷ row "36SS Z" 16 276 1 6
    ∷ row "36SS Z" 16 307 1 6
    ∷ row "36SS Z" 16 308 0 4
    ∷ row "36SS Z" 17 309 0 4
    ∷ row "35SS Z" 15 0 1 0
    ∷ row "35SS Z" 16 0 3 6
    ∷ row "W E" 15 0 1 0
    ∷ row "W E" 16 0 0 6
    ∷ row "36CCA Q=1" 15 0 1 0
    ∷ row "36CCA Q=1" 16 0 2 6
    ∷ []

-- of a card of thirty-two cells, whose record has 516 bytes
abbrev large_rows : List Row
large_rows =
    row "36SS Z" 15 516 1 0
    ∷ row "36SS Z" 16 308 1 6
    ∷ row "36SS Z" 16 515 1 6
    ∷ row "36SS Z" 16 516 0 4
    ∷ row "35SS Z" 16 0 3 6
    ∷ []

-- the line to a fresh card of n cells
given : ℕ → Row → ℕ × ℕ
given n e =
    let c = fresh_of n in
    ((line_outcome n c (bytes_of e.text) e.reply e.store).k, length (line_reply n c (bytes_of e.text) e.reply e.store))

expected : Row → ℕ × ℕ
expected e = (e.k, e.len)

examples : (map (given cell_count) rows ≡ map expected rows) × (map (given cell_room) large_rows ≡ map expected large_rows)
unfolding given expected listed is_digit digits_of leads plain number_in number_at decimal_from decimal fresh current_cell current_connector is_word is_whole to_end
    slot_of cca_form read_form card_form plain_form addressed parse refusal changed change_for response_to decision decision_for line_decision
    line_outcome reply_of line_reply kind_at source_at with_kind with_source each from_each well_formed bit_at word_of
examples = (refl, refl)

-- the longest reply: the duration of a timer, in a buffer of 16 bytes
after_line : Card → String → Card
after_line c text = (line_outcome cell_count c (bytes_of text) shortest_reply 0).card

longest_reply : List ℕ
longest_reply = line_reply cell_count (after_line (set_type cell_count fresh 9) "36CCA Z=4294967295") (bytes_of "36CCA Z?") shortest_reply 0

longest-reply : (longest_reply ≡ bytes_of ":A 4294967295" ++ ending) × (length longest_reply ≡ 15)
unfolding after_line longest_reply listed value_by is_digit digits_of leads plain number_in number_at decimal_from decimal row_of fresh current_cell current_connector
    put_cell typed set_type configured_state configured set_config config_shown bad_config no_config is_word is_whole to_end slot_of cca_form
    read_form card_form plain_form addressed parse refusal changed change_for response_to decision decision_for line_decision line_outcome reply_of line_reply kind_at
    source_at with_kind with_source each from_each well_formed bit_at word_of
longest-reply = (refl, refl)

-- "The reply is at the front of the reply buffer": what is beyond it stays, and so does a store
-- that is not written to
left : (reply store : ℕ) → String → List ℕ × List ℕ
left reply store text =
    let r = line_result cell_count fresh (bytes_of text) (replicate reply 7) (replicate store 7) in
    (r.reply, r.store)

untouched : (left 20 3 "W E" ≡ (bytes_of ":A 1\r\n" ++ replicate 14 7, replicate 3 7))
    × (left 20 3 "36SS Z" ≡ (bytes_of ":N-1\r\n" ++ replicate 14 7, replicate 3 7))
    × (left 15 3 "W E" ≡ (replicate 15 7, replicate 3 7))
unfolding left listed is_digit digits_of leads plain number_in number_at decimal_from decimal fresh current_cell current_connector is_word is_whole to_end slot_of
    cca_form read_form card_form plain_form addressed parse refusal changed change_for response_to decision decision_for line_decision line_outcome
    reply_of line_reply kind_at source_at with_kind with_source each from_each well_formed bit_at word_of
untouched = (refl, refl, refl)
