-- A law of input lines that are longer than any form: they all leave the same.
use Prim.Native.Nat.{ℕ, ◌<◌}
use mathlib.Core.Path.{◌≡◌, sym, ◌∙◌}
use mathlib.Core.List.{List}
use native.Mathlib.Omega.{arith}
use lib.ListN.{length}
use borrow.Author.Tests.{ne_eqb}
use Rattle.card.specs.declared.card.Card.{Card}
use Rattle.grammar.specs.Grammar.{longest_line, parse}
use Rattle.lines.specs.Line.{shortest_reply, line_outcome}
use Rattle.lines.proofs.Long.{parse-long, outcome-same, reply-same, store_same}
use Rattle.session.specs.Session.{tick_line, plain_reply, by_line, entered, event_of}
use Rattle.session.specs.declared.Event.TheVariants.{Line}

-- a long line is no tick and no load
module _ (n : ℕ) (c : Card) (t store : List ℕ) (h : longest_line < length t) where
  fifteen : length t ≡ 15 → ⊥
  fifteen = omega arith

  one : length t ≡ 1 → ⊥
  one = omega arith

  long-line : entered n c t store ≡ by_line n c t store
  unfolding entered tick_line
  long-line = rw (ne_eqb (length t) 15 fifteen, ne_eqb (length t) 1 one)

  long-event : event_of n c t store ≡ Line (line_outcome n c t shortest_reply (length store)).k
  unfolding event_of tick_line
  long-event = rw (ne_eqb (length t) 15 fifteen, ne_eqb (length t) 1 one)

module _ (n : ℕ) (c : Card) (t u store : List ℕ) (ht : longest_line < length t) (hu : longest_line < length u) where
  same : parse n t ≡ parse n u
  same = parse-long n t ht ∙ sym (parse-long n u hu)

  outcome : line_outcome n c t shortest_reply (length store) ≡ line_outcome n c u shortest_reply (length store)
  outcome = outcome-same n c t u same shortest_reply (length store)

  pub entered-long : entered n c t store ≡ entered n c u store
  entered-long =
      let saved = store_same n c t u same shortest_reply store in
      let reply = reply-same n c t u same shortest_reply (length store) in
      long-line n c t store ht
      ∙ (λ i. record { card = (outcome i).card; store = saved i; printed = plain_reply (reply i) })
      ∙ sym (long-line n c u store hu)

  pub event-long : event_of n c t store ≡ event_of n c u store
  event-long = long-event n c t store ht ∙ (λ i. Line (outcome i).k) ∙ sym (long-event n c u store hu)
