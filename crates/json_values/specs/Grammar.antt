-- RFC 8259: what stands at an offset of a text, and the offset after it.
--     2  JSON-text = ws value ws; begin-array = ws %x5B ws, begin-object = ws %x7B ws, end-array = ws %x5D ws,
--        end-object = ws %x7D ws, name-separator = ws %x3A ws, value-separator = ws %x2C ws
--     3  value = false / null / true / object / array / number / string
--     4  object = begin-object [ member *( value-separator member ) ] end-object, member = string name-separator value
--     5  array = begin-array [ value *( value-separator value ) ] end-array
-- Blanks are passed before what is looked for: a value starts at its first byte, and ends after its last.
use Rattle.std.specs.Prelude.{Some, None}
use Rattle.std.specs.Prelude.{ℕ, zero, suc, ◌+◌, ◌-◌, Bool, true, false, ◌&&◌, List, [], ◌∷◌, length, eqb}
use Rattle.std.specs.Prelude.{if◌then◌else◌}
use Rattle.json_values.specs.declared.Turn.{Turn}
use Rattle.json_values.specs.declared.Turn.TheVariants.{Done, Next, Bad}
use Rattle.json_tokens.specs.Text.{byte_at, blanks, Got, and_then}
use Rattle.json_tokens.specs.Strings.{string_at, cons}
use Rattle.json_tokens.specs.Numbers.{Figure, number_at}

-- 3: a value. Of a string the code points of its characters, of a number what is read of it; an array is a list. In
-- lists and objects it also says where each value stands
mutual
  pub data Json : Type 0 where
    null : Json
    bool : Bool → Json
    number : Figure → Json
    string : List ℕ → Json
    list : Values → Json
    object : Members → Json

  pub data Values : Type 0 where
    no_values : Values
    value : (at : ℕ) → Json → Values → Values

  pub data Members : Type 0 where
    no_members : Members
    member : (name : List ℕ) → (at : ℕ) → Json → Members → Members

-- an item of a list: where it stands, and what
pub record Item : Type 0 where
  pub at : ℕ
  pub value : Json

-- a member: its name, where its value stands, and what
pub record Member : Type 0 where
  pub name : List ℕ
  pub at : ℕ
  pub value : Json

unfoldable pub values_of : List Item → Values
values_of [] = no_values
values_of (j ∷ l) = value j.at j.value (values_of l)

unfoldable pub members_of : List Member → Members
members_of [] = no_members
members_of (m ∷ l) = member m.name m.at m.value (members_of l)

-- after the %x5B of begin-array, the %x7B of begin-object: the closing bracket c, or the first item
unfoldable pub opened_at : ℕ → List ℕ → ℕ → Turn
opened_at c text i = if eqb (byte_at text (blanks text i)) c then Done (blanks text i + 1) else Next (blanks text i)

-- after an item: the closing bracket c, or a value-separator and the next item
unfoldable pub after_at : ℕ → List ℕ → ℕ → Turn
after_at c text i =
    if eqb (byte_at text (blanks text i)) c then Done (blanks text i + 1)
    else if eqb (byte_at text (blanks text i)) 0x2c then Next (blanks text (blanks text i + 1))
    else Bad

-- what a turn leads to, by what is read from the next item on
unfoldable pub turned : {A : Type 0} → Turn → (ℕ → Got (List A)) → Got (List A)
turned Bad f = None
turned (Done k) f = Some ([], k)
turned (Next i) f = f i

-- [ item *( value-separator item ) ] and the closing bracket, from a turn on; so many items at most
unfoldable pub items_from : {A : Type 0} → ℕ → (ℕ → Got A) → (ℕ → Turn) → Turn → Got (List A)
items_from zero v next turn = turned turn (λ i. None)
items_from (suc n) v next turn = turned turn (λ i. and_then (v i) (λ a e. cons a (items_from n v next (next e))))

-- how many items a turn has at most: as many as there are bytes left
unfoldable pub rank : ℕ → Turn → ℕ
rank len Bad = 0
rank len (Done k) = 0
rank len (Next i) = suc (len - i)

-- the same, of items that v reads, up to the closing bracket c
unfoldable pub items : {A : Type 0} → (ℕ → Got A) → ℕ → List ℕ → Turn → Got (List A)
items v c text turn = items_from (rank (length text) turn) v (after_at c text) turn

-- false = %x66.61.6c.73.65, null = %x6e.75.6c.6c, true = %x74.72.75.65, by the bytes after the first
abbrev pub three_at : List ℕ → ℕ → ℕ → ℕ → ℕ → Bool
three_at text i a b c = eqb (byte_at text i) a && (eqb (byte_at text (i + 1)) b && eqb (byte_at text (i + 2)) c)

unfoldable pub true_at : List ℕ → ℕ → Got Json
true_at text i = if three_at text (i + 1) 0x72 0x75 0x65 then Some (bool true, i + 4) else None

unfoldable pub null_at : List ℕ → ℕ → Got Json
null_at text i = if three_at text (i + 1) 0x75 0x6c 0x6c then Some (null, i + 4) else None

unfoldable pub false_at : List ℕ → ℕ → Got Json
false_at text i = if three_at text (i + 1) 0x61 0x6c 0x73 && eqb (byte_at text (i + 4)) 0x65 then Some (bool false, i + 5) else None

-- false / null / true / number / string, by the first byte b
unfoldable pub plain_by : List ℕ → ℕ → ℕ → Got Json
plain_by text i b =
    if eqb b 0x22 then and_then (string_at text i) (λ s e. Some (string s, e))
    else if eqb b 0x74 then true_at text i
    else if eqb b 0x66 then false_at text i
    else if eqb b 0x6e then null_at text i
    else and_then (number_at text i) (λ n e. Some (number n, e))

abbrev pub plain_at : List ℕ → ℕ → Got Json
plain_at text i = plain_by text i (byte_at text i)

-- string name-separator: a member's name, and where its value starts
unfoldable pub colon_at : {A : Type 0} → List ℕ → A → ℕ → Got A
colon_at text n e = if eqb (byte_at text (blanks text e)) 0x3a then Some (n, blanks text (blanks text e + 1)) else None

unfoldable pub named_at : List ℕ → ℕ → Got (List ℕ)
named_at text i = and_then (string_at text i) (colon_at text)

-- member = string name-separator value, of values that v reads
unfoldable pub member_at : (ℕ → Got Json) → List ℕ → ℕ → Got Member
member_at v text i = and_then (named_at text i) (λ n k. and_then (v k) (λ j e. Some (record { name = n; at = k; value = j }, e)))

-- an item of a list
unfoldable pub item_at : (ℕ → Got Json) → ℕ → Got Item
item_at v i = and_then (v i) (λ j e. Some (record { at = i; value = j }, e))

-- value, in which so many lists and objects may stand one in the other
unfoldable pub value_at : ℕ → List ℕ → ℕ → Got Json
value_at zero text i = plain_at text i
value_at (suc left) text i =
    if eqb (byte_at text i) 0x5b
    then and_then (items (item_at (value_at left text)) 0x5d text (opened_at 0x5d text (i + 1))) (λ l e. Some (list (values_of l), e))
    else if eqb (byte_at text i) 0x7b
    then and_then (items (member_at (value_at left text) text) 0x7d text (opened_at 0x7d text (i + 1))) (λ l e. Some (object (members_of l), e))
    else plain_at text i

-- what stands after the %x5B of an array, up to its end; after the %x7B of an object, up to its end
abbrev pub values_at : ℕ → List ℕ → ℕ → Got (List Item)
values_at left text i = items (item_at (value_at left text)) 0x5d text (opened_at 0x5d text i)

abbrev pub members_at : ℕ → List ℕ → ℕ → Got (List Member)
members_at left text i = items (member_at (value_at left text) text) 0x7d text (opened_at 0x7d text i)

-- 9: a parser may set limits on the depth of nesting; here it is 32 lists and objects, one in the other
abbrev pub deepest : ℕ
deepest = 32

-- JSON-text = ws value ws: nothing but blanks follows the value
unfoldable pub whole_of : List ℕ → Got Json → Got Json
whole_of text g = and_then g (λ j e. if eqb (blanks text e) (length text) then Some (j, e) else None)

-- the same, from the start
abbrev pub document_of : List ℕ → Got Json
document_of text = whole_of text (value_at deepest text (blanks text 0))
