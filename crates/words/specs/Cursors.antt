-- How a cursor moves through words.
use Rattle.std.specs.Prelude.{◌≡◌, ℕ, ◌+◌, ◌≤◌, length, drop}
use Rattle.words.specs.declared.cursor.Cursor.{Cursor}

-- So many words were there, and the cursor stands behind them.
pub record Moved (n : ℕ) (old new : Cursor) : Type 0 where
  pub there : n ≤ length old.rest.now
  pub place : new.place ≡ old.place + n
  pub rest : new.rest.now ≡ drop n old.rest.now
