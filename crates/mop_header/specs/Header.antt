-- The header of a telegram: its parts and bytes, the mark, and what rolling and marking give.
-- Assumes nothing.
use Rattle.std.specs.Prelude.{ℕ, zero, suc, Bool, true, ◌&&◌, ◌||◌, List, [], ◌∷◌, ◌++◌, eqb, length, get_or, drop}
use Rattle.mop_block.specs.Block.{first, rolled, roll_left, roll_right}
use Rattle.mop_header.specs.declared.Function.{Function}
use Rattle.mop_header.specs.declared.Function.TheVariants.{Request, Reply}
use Rattle.mop_header.specs.declared.Form.{Form}
use Rattle.mop_header.specs.declared.Form.TheVariants.{Standard, Extended}
use Rattle.mop_header.specs.declared.Header.{Header}

-- function, control byte, form (standard, or extended with the first mark byte), and the block
pub record Head : Type 0 where
  pub function : Function
  pub control : ℕ
  pub form : Form
  pub block : List ℕ

abbrev pub head : Function → ℕ → Form → List ℕ → Head
head function control form block = record { function = function; control = control; form = form; block = block }

-- so many entries from the front of a slice, with 00 where it has none
unfoldable pub entries : ℕ → List ℕ → List ℕ
entries zero slice = []
entries (suc n) slice = get_or slice 0 0 ∷ entries n (drop 1 slice)

-- what a header of the code stands for, beside the slice that holds its entries: the block is the first count of them, rolled
-- to the left by turn; a turn of count or more rolls nothing
abbrev pub head_of : Header → List ℕ → Head
head_of h slice = head h.function h.control h.form (rolled h.turn (entries h.count slice))

-- what a method makes of a header, whatever slice stands beside it
abbrev pub beside : (Head → Head) → (List ℕ → Head) → List ℕ → Head
beside f h slice = f (h slice)

-- how many bytes stand before the block of a telegram
abbrev pub block_start : Form → ℕ
block_start Standard = 2
block_start (Extended mark) = 7

-- the function byte
abbrev pub function_byte : Function → ℕ
function_byte Request = 0x60
function_byte Reply = 0xE0

-- the bytes of the header between the control byte and the body: the block; or the mark, the block's length and the block
unfoldable pub address_bytes : Form → List ℕ → List ℕ
address_bytes Standard b = b
address_bytes (Extended mark) b = mark ∷ 0xEF ∷ 0xEF ∷ 0xEF ∷ length b ∷ b

-- the bytes of the header, and their number
unfoldable pub header_bytes : Head → List ℕ
header_bytes h = function_byte h.function ∷ h.control ∷ address_bytes h.form h.block

unfoldable pub header_length : Head → ℕ
header_length h = length (header_bytes h)

-- the telegram of a header and a body, and the body behind a header
unfoldable pub telegram_of : Head → List ℕ → List ℕ
telegram_of h body = header_bytes h ++ body

unfoldable pub body_of : Head → List ℕ → List ℕ
body_of h telegram = drop (header_length h) telegram

-- "mark": four entries that make a header extended, three of them EF behind a first one that is EF as well, or in a reply 00
unfoldable pub may_begin : Function → ℕ → Bool
may_begin Request a = eqb a 0xEF
may_begin Reply a = eqb a 0xEF || eqb a 0

unfoldable pub is_mark : Function → ℕ → ℕ → ℕ → ℕ → Bool
is_mark f a b c d = eqb b 0xEF && (eqb c 0xEF && (eqb d 0xEF && may_begin f a))

-- the first mark byte, by the block's first entry: in a reply 00 exactly if that is 00
unfoldable pub mark_byte : Function → ℕ → ℕ
mark_byte Request a = 0xEF
mark_byte Reply zero = 0x00
mark_byte Reply (suc a) = 0xEF

-- whether the first mark byte of a form is a given one, and the form with another one; a standard form has no mark, so that
-- none can disagree
unfoldable pub mark_is : Form → ℕ → Bool
mark_is Standard k = true
mark_is (Extended mark) k = eqb mark k

unfoldable pub with_mark : Form → ℕ → Form
with_mark Standard k = Standard
with_mark (Extended mark) k = Extended k

-- whether the mark agrees with the block
unfoldable pub mark_agrees : Head → Bool
mark_agrees h = mark_is h.form (mark_byte h.function (first h.block))

-- the mark set by the block's first entry
unfoldable pub remarked : Head → Head
remarked h = head h.function h.control (with_mark h.form (mark_byte h.function (first h.block))) h.block

-- the block rolled one place
unfoldable pub rolled_left : Head → Head
rolled_left h = head h.function h.control h.form (roll_left h.block)

unfoldable pub rolled_right : Head → Head
rolled_right h = head h.function h.control h.form (roll_right h.block)

-- the control byte of a new telegram
abbrev pub new_control : ℕ
new_control = 0xFF

-- a new reply, in the form and with the block of the request
unfoldable pub as_reply : Head → Head
as_reply h = head Reply new_control h.form h.block

-- a reply as it is sent: its block rolled right, then marked
unfoldable pub sent_back : Head → Head
sent_back h = remarked (rolled_right h)
