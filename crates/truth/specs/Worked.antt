-- Which of the names with an entry are defined, and the truth value of one step. Assumes nothing.
--   flag_of o fs   the flag at the place o; false where there is none
--   env_of ns fs y   is y defined, where the flags tell it of the names in their order? A name without an entry is not
--   one i D a b    what the step i leaves, of the values a and b of its operands; `!` has a alone
use Rattle.std.specs.Prelude.{ℕ, Bool, true, false, not, ◌&&◌, ◌||◌, List, Some, None, Option, slice_index_or}
use Rattle.text.specs.Tokens.{Bytes}
use Rattle.names.specs.Names.{index_of}
use Rattle.expressions.specs.Conditions.{Item, false-item, true-item, not-item, and_item, or-item, name_item}
use Rattle.expressions.specs.Truth.{Env}

abbrev pub flag_of : Option ℕ → List Bool → Bool
flag_of None fs = false
flag_of (Some i) fs = slice_index_or fs i false

abbrev pub env_of : List Bytes → List Bool → Env
env_of ns fs y = flag_of (index_of ns y) fs

abbrev pub one : Item → Env → Bool → Bool → Bool
one false-item D a b = false
one true-item D a b = true
one (name_item x) D a b = D x
one not-item D a b = not a
one and_item D a b = a && b
one or-item D a b = a || b
