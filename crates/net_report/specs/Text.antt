-- The text that tells a journey, as the codes of its characters.
-- Assumes nothing.
use Rattle.std.specs.Prelude.{ℕ, suc, ◌+◌, ◌-◌, ◌/◌, ◌%◌, List, [], ◌∷◌, ◌++◌, ltb, length}
use Prim.Native.Char.{code}
use Prim.Native.String as text
use Rattle.base.specs.Choice.{pick}
use Rattle.mop_header.specs.Header.{Head, function_byte}
use Rattle.mop_reader.specs.Reading.{Reading, sound, faulty, reading}
use Rattle.mop_reader.specs.declared.Reader.TheVariants.{Station}
use Rattle.net_journey.specs.Journey.{Ending, at_zero, at_nobody, refused_with, Course}

-- the codes of a text
abbrev pub codes : text.String → List ℕ
codes text.[] = []
codes (text.◌∷◌ c rest) = code c ∷ codes rest

abbrev pub space : ℕ
space = 0x20

abbrev pub line_feed : ℕ
line_feed = 0x0A

-- a decimal digit, and a hex digit, A to F as capitals
abbrev pub digit : ℕ → ℕ
digit n = 0x30 + n

unfoldable pub hex_digit : ℕ → ℕ
hex_digit n = pick (ltb n 10) (digit n) (0x41 + (n - 10))

-- bytes in two hex digits each, behind a space
unfoldable pub hex_bytes : List ℕ → List ℕ
hex_bytes [] = []
hex_bytes (b ∷ rest) = space ∷ hex_digit (b / 16) ∷ hex_digit (b % 16) ∷ hex_bytes rest

-- a number under 100 in decimal; a journey has at most 62 transmissions, and no refusal has a larger number
unfoldable pub decimal : ℕ → List ℕ
decimal n = pick (ltb n 10) (digit n ∷ []) (digit (n / 10) ∷ digit (n % 10) ∷ [])

-- a transmission with this header: its number, the function byte and the block entries
unfoldable pub head_line : ℕ → Head → List ℕ
head_line number h = decimal number ++ (hex_bytes (function_byte h.function ∷ h.block) ++ (line_feed ∷ []))

-- by what reading it gives: a telegram with a fault of its header has no line, and is never told
unfoldable pub line_of : ℕ → Reading → List ℕ
line_of number (sound h) = head_line number h
line_of number (faulty k) = []

unfoldable pub line : ℕ → List ℕ → List ℕ
line number tg = line_of number (reading Station tg)

-- a line for each transmission
unfoldable pub lines : ℕ → List (List ℕ) → List ℕ
lines number [] = []
lines number (tg ∷ rest) = line number tg ++ lines (suc number) rest

-- a count, and the number of a refusal
unfoldable pub sent_text : ℕ → List ℕ
sent_text n = codes "sent " ++ decimal n

unfoldable pub refused_text : ℕ → List ℕ
refused_text k = codes "refused " ++ decimal k

-- what follows the count where a station refused
unfoldable pub ending_text : Ending → List ℕ
ending_text at_zero = []
ending_text at_nobody = []
ending_text (refused_with k) = space ∷ refused_text k

-- the last line
unfoldable pub closing : ℕ → Ending → List ℕ
closing count e = sent_text count ++ (ending_text e ++ (line_feed ∷ []))

-- the whole text of a journey
unfoldable pub course_text : Course → List ℕ
course_text c = lines 1 c.transmissions ++ closing (length c.transmissions) c.ending

-- the whole text of a call that is refused outright
unfoldable pub outright_text : ℕ → List ℕ
outright_text k = refused_text k ++ (line_feed ∷ [])
