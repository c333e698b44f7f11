pub mod CursorMoves
