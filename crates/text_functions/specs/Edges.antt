-- The ends of a text, and the parts of a path.
use Rattle.std.specs.Prelude.{ℕ, ◌-◌, ◌==◌, Bool, ◌||◌, List, length, take, drop, Option, Some, None, if◌then◌else◌}
use Rattle.std.specs.List.{prefix_len, suffix_len, list_any, after_last, before_last}

-- a space or a tab
abbrev pub is_blank : ℕ → Bool
is_blank b = b == 32 || b == 9

-- a text without the blanks at its left
abbrev pub left_trimmed : List ℕ → List ℕ
left_trimmed text = drop (prefix_len is_blank text) text

-- at its right
abbrev pub right_trimmed : List ℕ → List ℕ
right_trimmed text = take (length text - suffix_len is_blank text) text

-- a slash or a backslash
abbrev pub is_slash : ℕ → Bool
is_slash b = b == 47 || b == 92

-- what stands behind the last slash, or the whole where there is none
abbrev pub file_name : List ℕ → List ℕ
file_name text = after_last is_slash text

-- what stands before it
abbrev pub path_of : List ℕ → List ℕ
path_of text = before_last is_slash text

abbrev pub is_point : ℕ → Bool
is_point b = b == 46

-- what stands behind the last point of a file name
abbrev pub extension_of : List ℕ → Option (List ℕ)
extension_of name = if list_any is_point name then Some (after_last is_point name) else None

abbrev pub extension : List ℕ → Option (List ℕ)
extension text = extension_of (file_name text)
