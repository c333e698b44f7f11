-- How an output goes on.
use Rattle.std.specs.Prelude.{◌≡◌, ℕ, ◌+◌, ◌≤◌, List, length}
use Rattle.writer.specs.declared.output.Output.{Output}
use Rattle.writer.specs.Writing.{laid}

-- The output has room for so many words more.
abbrev pub HasRoom : ℕ → Output → Type 0
HasRoom n o = o.place + n ≤ length o.words.now

-- These words were laid from the output's place on, which is behind them now, and every other word is as it was.
pub record Laid (others : List ℕ) (old new : Output) : Type 0 where
  pub there : HasRoom (length others) old
  pub place : new.place ≡ old.place + length others
  pub words : new.words.now ≡ laid old.place others old.words.now
  pub long : length new.words.now ≡ length old.words.now
  pub same_reference : new.words.ghost_name ≡ old.words.ghost_name
