-- The classes of tokens.
pub use Rattle.grammar.specs.declared.Class.{Class}
use Rattle.grammar.specs.declared.Class.TheVariants as c
use Rattle.std.specs.Prelude.{ℕ, Bool, ◌==◌, ◌&&◌, ◌||◌}

abbrev pub code : Class → ℕ
code c.Unsigned = 0
code c.Signed = 1
code c.Real = 2
code c.Text = 3
code c.Name = 4
code c.Word = 5
code c.Count = 6
code c.PropCount = 7
code c.Timestamp = 8
code c.Select = 9
code c.Top = 10
code c.Distinct = 11
code c.All = 12
code c.Using = 13
code c.As = 14
code c.Into = 15
code c.From = 16
code c.Where = 17
code c.Group = 18
code c.By = 19
code c.With = 20
code c.Rollup = 21
code c.Having = 22
code c.Order = 23
code c.Asc = 24
code c.Desc = 25
code c.And = 26
code c.Or = 27
code c.Not = 28
code c.Like = 29
code c.Between = 30
code c.In = 31
code c.Is = 32
code c.Null = 33
code c.Case = 34
code c.When = 35
code c.Then = 36
code c.Else = 37
code c.End = 38
code c.Open = 39
code c.Close = 40
code c.Comma = 41
code c.Semicolon = 42
code c.Star = 43
code c.Compares = 44

abbrev pub is_a : Class → Class → Bool
is_a a b = code a == code b

abbrev pub all_numbers : (Class → Bool) → Bool
all_numbers p = p c.Unsigned && (p c.Signed && p c.Real)

abbrev pub all_words : (Class → Bool) → Bool
all_words p = p c.Text && (p c.Name && (p c.Word && (p c.Count && (p c.PropCount && p c.Timestamp))))

abbrev pub all_first_keywords : (Class → Bool) → Bool
all_first_keywords p = p c.Select && (p c.Top && (p c.Distinct && (p c.All && (p c.Using && (p c.As && (p c.Into && p c.From))))))

abbrev pub all_second_keywords : (Class → Bool) → Bool
all_second_keywords p = p c.Where && (p c.Group && (p c.By && (p c.With && (p c.Rollup && (p c.Having && (p c.Order && p c.Asc))))))

abbrev pub all_third_keywords : (Class → Bool) → Bool
all_third_keywords p = p c.Desc && (p c.And && (p c.Or && (p c.Not && (p c.Like && (p c.Between && (p c.In && p c.Is))))))

abbrev pub all_last_keywords : (Class → Bool) → Bool
all_last_keywords p = p c.Null && (p c.Case && (p c.When && (p c.Then && (p c.Else && (p c.End && p c.Open)))))

abbrev pub all_signs : (Class → Bool) → Bool
all_signs p = p c.Close && (p c.Comma && (p c.Semicolon && (p c.Star && p c.Compares)))

-- whether each class has a property
abbrev pub for_all : (Class → Bool) → Bool
for_all p = all_numbers p && (all_words p && (all_first_keywords p && (all_second_keywords p && (all_third_keywords p && (all_last_keywords p && all_signs p)))))

abbrev pub some_numbers : (Class → Bool) → Bool
some_numbers p = p c.Unsigned || (p c.Signed || p c.Real)

abbrev pub some_words : (Class → Bool) → Bool
some_words p = p c.Text || (p c.Name || (p c.Word || (p c.Count || (p c.PropCount || p c.Timestamp))))

abbrev pub some_first_keywords : (Class → Bool) → Bool
some_first_keywords p = p c.Select || (p c.Top || (p c.Distinct || (p c.All || (p c.Using || (p c.As || (p c.Into || p c.From))))))

abbrev pub some_second_keywords : (Class → Bool) → Bool
some_second_keywords p = p c.Where || (p c.Group || (p c.By || (p c.With || (p c.Rollup || (p c.Having || (p c.Order || p c.Asc))))))

abbrev pub some_third_keywords : (Class → Bool) → Bool
some_third_keywords p = p c.Desc || (p c.And || (p c.Or || (p c.Not || (p c.Like || (p c.Between || (p c.In || p c.Is))))))

abbrev pub some_last_keywords : (Class → Bool) → Bool
some_last_keywords p = p c.Null || (p c.Case || (p c.When || (p c.Then || (p c.Else || (p c.End || p c.Open)))))

abbrev pub some_signs : (Class → Bool) → Bool
some_signs p = p c.Close || (p c.Comma || (p c.Semicolon || (p c.Star || p c.Compares)))

-- whether a class has a property
abbrev pub for_some : (Class → Bool) → Bool
for_some p = some_numbers p || (some_words p || (some_first_keywords p || (some_second_keywords p || (some_third_keywords p || (some_last_keywords p || some_signs p)))))
