-- Document 01, "Cells": constants, lookups, gates and flip-flops, as tables by computation, and
-- what working out leaves of a state. The values are read from the paper. Every clause of
-- specs/Work has a row that another reading would change.
use Rattle.std.specs.Prelude.{ℕ, ◌≡◌, refl, Bool, true, false, List, [], ◌∷◌, map}
use Rattle.words.specs.Bits.{bit_at}
use Rattle.cells.specs.declared.table.Slots.{Slots}
use Rattle.cells.specs.Table.{slots, row_of, no_slot, XY, XYZ, XYZF, only_y, only_z}
use Rattle.cells.specs.Work.{pulses, taken, raised, work_as, work_out}

-- count, bit, pulse and output of a cell that is worked out with this configuration and this state
worked : (kind config count : ℕ) (bit pulse : Bool) → Slots → ℕ × Bool × Bool × Bool
worked kind config count bit pulse r =
    let w = work_out kind config (record { count = pulses count; bit = bit; pulse = pulse }) r in
    (w.state.count.0, w.state.bit, w.state.pulse, w.out)

-- sets of slots that are high
abbrev only_x : Slots
only_x = slots true false false false

abbrev only_f : Slots
only_f = slots false false false true

abbrev ZF : Slots
ZF = slots false false true true

abbrev XZF : Slots
XZF = slots true false true true

abbrev YZF : Slots
YZF = slots false true true true

-- ---- what has no state of its own

-- the output of a cell that keeps nothing
out : (kind config : ℕ) → Slots → Bool
out kind config r = (work_out kind config (record { count = pulses 0; bit = false; pulse = false }) r).out

-- given, expected
abbrev outputs : List (Bool × Bool)
outputs =
    -- a constant is "high unless 0", also one that no line could set; its slots do not count
    (out 0 0 no_slot, false)
    ∷ (out 0 0 XYZF, false)
    ∷ (out 0 1 no_slot, true)
    ∷ (out 0 64 no_slot, true)
    -- a number past the table does nothing
    ∷ (out 23 1 XYZF, false)
    ∷ (out 255 1 XYZF, false)
    -- "p = X + 2Y + 4Z + 8F over the slots used, the answer is bit number p of the code": each slot
    -- alone, none, all
    ∷ (out 4 0x0001 no_slot, true)
    ∷ (out 4 0x0002 only_x, true)
    ∷ (out 4 0x0004 only_y, true)
    ∷ (out 4 0x0010 only_z, true)
    ∷ (out 4 0x0100 only_f, true)
    ∷ (out 4 0x8000 XYZF, true)
    ∷ (out 4 0x7fff XYZF, false)
    ∷ (out 4 0xfffd only_x, false)
    -- types 2 and 3 do not use F, and 2 does not use Z
    ∷ (out 2 0x0008 XY, true)
    ∷ (out 2 0x0002 XZF, true)
    ∷ (out 2 0x0002 only_y, false)
    ∷ (out 3 0x0080 XYZF, true)
    ∷ (out 3 0x0010 ZF, true)
    ∷ (out 3 0x0001 only_f, true)
    ∷ (out 3 0x0008 XYZ, false)
    -- AND2, OR2, XOR2 of X and Y; Z and F are not theirs
    ∷ (out 5 0 XY, true)
    ∷ (out 5 0 XZF, false)
    ∷ (out 5 0 YZF, false)
    ∷ (out 5 0 ZF, false)
    ∷ (out 6 0 XY, true)
    ∷ (out 6 0 only_x, true)
    ∷ (out 6 0 only_y, true)
    ∷ (out 6 0 ZF, false)
    ∷ (out 7 0 XY, false)
    ∷ (out 7 0 only_x, true)
    ∷ (out 7 0 only_y, true)
    ∷ (out 7 0 ZF, false)
    -- AND4: all four, and each of them missing
    ∷ (out 10 0 XYZF, true)
    ∷ (out 10 0 YZF, false)
    ∷ (out 10 0 XZF, false)
    ∷ (out 10 0 (slots true true false true), false)
    ∷ (out 10 0 XYZ, false)
    -- OR4: none, and each of them alone
    ∷ (out 11 0 no_slot, false)
    ∷ (out 11 0 only_x, true)
    ∷ (out 11 0 only_y, true)
    ∷ (out 11 0 only_z, true)
    ∷ (out 11 0 only_f, true)
    ∷ []

gates : map (λ (e : Bool × Bool). e.0) outputs ≡ map (λ (e : Bool × Bool). e.1) outputs
unfolding out bit_at row_of work_as work_out
gates = refl

-- ---- flip-flops

-- the bit that a flip-flop keeps, and its output
flop : (kind : ℕ) → Bool → Slots → Bool × Bool
flop kind bit r =
    let w = work_out kind 0 (record { count = pulses 0; bit = bit; pulse = false }) r in
    (w.state.bit, w.out)

-- both low, or both high
abbrev Low : Bool × Bool
Low = (false, false)

abbrev High : Bool × Bool
High = (true, true)

-- X is D, or J; Y the clock, or K; Z the reset, or a JK's clock; F the preset, or the reset at a
-- clock
abbrev bits : List ((Bool × Bool) × (Bool × Bool))
bits =
    -- type 1: "reset gives 0; else preset gives 1; else a clock edge takes D; else hold"
    (flop 1 true XYZF, Low)
    ∷ (flop 1 true only_z, Low)
    ∷ (flop 1 true (slots true true true false), Low)
    ∷ (flop 1 false only_f, High)
    ∷ (flop 1 false (slots false true false true), High)
    ∷ (flop 1 false XY, High)
    ∷ (flop 1 true only_y, Low)
    ∷ (flop 1 false only_x, Low)
    ∷ (flop 1 true no_slot, High)
    -- type 12: "the same three, only at a clock edge"
    ∷ (flop 12 true XYZF, Low)
    ∷ (flop 12 true (slots true true true false), Low)
    ∷ (flop 12 false (slots false true false true), High)
    ∷ (flop 12 false XY, High)
    ∷ (flop 12 true only_y, Low)
    ∷ (flop 12 true only_z, High)
    ∷ (flop 12 false only_f, Low)
    ∷ (flop 12 false only_x, Low)
    ∷ (flop 12 true no_slot, High)
    -- type 18: "reset gives 0; else at an edge F gives 0, else D"
    ∷ (flop 18 true (slots true true true false), Low)
    ∷ (flop 18 true only_z, Low)
    ∷ (flop 18 true (slots true true false true), Low)
    ∷ (flop 18 false XY, High)
    ∷ (flop 18 true only_y, Low)
    ∷ (flop 18 true only_f, High)
    ∷ (flop 18 false only_x, Low)
    ∷ (flop 18 true no_slot, High)
    -- type 13: "at an edge J K = 10 sets, 01 clears, 11 toggles, 00 holds"; without an edge it
    -- holds, and F is not its slot
    ∷ (flop 13 false (slots true false true false), High)
    ∷ (flop 13 true (slots true false true false), High)
    ∷ (flop 13 true (slots false true true false), Low)
    ∷ (flop 13 false (slots false true true false), Low)
    ∷ (flop 13 false XYZ, High)
    ∷ (flop 13 true XYZ, Low)
    ∷ (flop 13 true only_z, High)
    ∷ (flop 13 false ZF, Low)
    ∷ (flop 13 false XY, Low)
    ∷ (flop 13 true (slots true true false true), High)
    ∷ []

flip-flops : map (λ (e : (Bool × Bool) × (Bool × Bool)). e.0) bits ≡ map (λ (e : (Bool × Bool) × (Bool × Bool)). e.1) bits
unfolding flop row_of work_as work_out
flip-flops = refl

-- ---- what a type does not keep stays as it was given

-- count, bit, pulse and output
abbrev Parts : Type 0
Parts = ℕ × Bool × Bool × Bool

-- given, expected
abbrev kept : List (Parts × Parts)
kept =
    (worked 0 0 7 true true XYZF, (7, true, true, false))
    ∷ (worked 23 1 7 true true XYZF, (7, true, true, false))
    ∷ (worked 5 0 7 true true XY, (7, true, true, true))
    ∷ (worked 4 0 7 true true XYZF, (7, true, true, false))
    -- a flip-flop has the bit
    ∷ (worked 1 0 7 false true XY, (7, true, true, true))
    ∷ (worked 13 0 7 true true XYZ, (7, false, true, false))
    -- a one-shot has the count, a delay the count and the pulse
    ∷ (worked 8 3 0 true true only_x, (3, true, true, true))
    ∷ (worked 16 3 0 false false only_f, (3, false, false, true))
    ∷ (worked 9 3 0 true true only_x, (3, true, false, false))
    ∷ (worked 17 0 0 false false only_f, (0, false, true, true))
    -- 19 and 20 have the count, 21 and 22 the count and "active"
    ∷ (worked 19 0 4 true true (slots true true false true), (5, true, true, true))
    ∷ (worked 20 0 4 false false XY, (5, false, false, true))
    ∷ (worked 21 0 4 false true XY, (5, true, true, true))
    ∷ (worked 22 0 4 true false only_f, (4, false, false, false))
    ∷ []

rest-kept : map (λ (e : Parts × Parts). e.0) kept ≡ map (λ (e : Parts × Parts). e.1) kept
unfolding worked bit_at row_of taken raised work_as work_out
rest-kept = refl
