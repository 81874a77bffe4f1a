-- The line that a buffer stands for.
use Rattle.std.specs.Prelude.{◌≡◌, ◌<◌, ℕ, List, length}
use Rattle.object_pool_cores.specs.Lines.{HasNoLineFeed}
use Rattle.object_pool_cores.specs.declared.engine.line_buffer.LineBuffer.{LineBuffer}
use Rattle.object_pool_cores.specs.declared.engine.line_buffer.LineBuffer.TheVariants.{Short, Long}

-- a short line is kept whole, and of a long one that it has more than 64 bytes
abbrev pub IsBuffered : List ℕ → LineBuffer → Type 0
IsBuffered line (Short bytes) = bytes.items ≡ line
IsBuffered line Long = 64 < length line

-- the buffer stands for the bytes since the last line feed
abbrev pub IsOpenLine : List ℕ → LineBuffer → Type 0
IsOpenLine line buffer = IsBuffered line buffer × HasNoLineFeed line
