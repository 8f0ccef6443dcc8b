-- What holds of all classes, or of one.
use Rattle.std.proofs.Common.{◌≡◌, Bool, true, false, ◌&&◌, ◌||◌, refl}
use Rattle.std.proofs.lemmas.Bool.{false≢true}
use Rattle.grammar.specs.Classes.{Class, for_all, for_some, is_a, all_numbers, some_numbers, all_words, some_words, all_first_keywords, some_first_keywords, all_second_keywords, some_second_keywords, all_third_keywords, some_third_keywords, all_last_keywords, some_last_keywords, all_signs, some_signs}
use Rattle.grammar.specs.declared.Class.TheVariants as c

pub and_left : (a b : Bool) → (a && b) ≡ true → a ≡ true
and_left true b is = refl
and_left false b is = is

pub and_right : (a b : Bool) → (a && b) ≡ true → b ≡ true
and_right true b is = is
and_right false b is = absurd (false≢true is)

in_numbers : (p : Class → Bool) → for_all p ≡ true → all_numbers p ≡ true
in_numbers p is = and_left (all_numbers p) (all_words p && (all_first_keywords p && (all_second_keywords p && (all_third_keywords p && (all_last_keywords p && all_signs p))))) is

in_words : (p : Class → Bool) → for_all p ≡ true → all_words p ≡ true
in_words p is = and_left (all_words p) (all_first_keywords p && (all_second_keywords p && (all_third_keywords p && (all_last_keywords p && all_signs p)))) (and_right (all_numbers p) (all_words p && (all_first_keywords p && (all_second_keywords p && (all_third_keywords p && (all_last_keywords p && all_signs p))))) is)

in_first_keywords : (p : Class → Bool) → for_all p ≡ true → all_first_keywords p ≡ true
in_first_keywords p is = and_left (all_first_keywords p) (all_second_keywords p && (all_third_keywords p && (all_last_keywords p && all_signs p))) (and_right (all_words p) (all_first_keywords p && (all_second_keywords p && (all_third_keywords p && (all_last_keywords p && all_signs p)))) (and_right (all_numbers p) (all_words p && (all_first_keywords p && (all_second_keywords p && (all_third_keywords p && (all_last_keywords p && all_signs p))))) is))

in_second_keywords : (p : Class → Bool) → for_all p ≡ true → all_second_keywords p ≡ true
in_second_keywords p is = and_left (all_second_keywords p) (all_third_keywords p && (all_last_keywords p && all_signs p)) (and_right (all_first_keywords p) (all_second_keywords p && (all_third_keywords p && (all_last_keywords p && all_signs p))) (and_right (all_words p) (all_first_keywords p && (all_second_keywords p && (all_third_keywords p && (all_last_keywords p && all_signs p)))) (and_right (all_numbers p) (all_words p && (all_first_keywords p && (all_second_keywords p && (all_third_keywords p && (all_last_keywords p && all_signs p))))) is)))

in_third_keywords : (p : Class → Bool) → for_all p ≡ true → all_third_keywords p ≡ true
in_third_keywords p is = and_left (all_third_keywords p) (all_last_keywords p && all_signs p) (and_right (all_second_keywords p) (all_third_keywords p && (all_last_keywords p && all_signs p)) (and_right (all_first_keywords p) (all_second_keywords p && (all_third_keywords p && (all_last_keywords p && all_signs p))) (and_right (all_words p) (all_first_keywords p && (all_second_keywords p && (all_third_keywords p && (all_last_keywords p && all_signs p)))) (and_right (all_numbers p) (all_words p && (all_first_keywords p && (all_second_keywords p && (all_third_keywords p && (all_last_keywords p && all_signs p))))) is))))

in_last_keywords : (p : Class → Bool) → for_all p ≡ true → all_last_keywords p ≡ true
in_last_keywords p is = and_left (all_last_keywords p) (all_signs p) (and_right (all_third_keywords p) (all_last_keywords p && all_signs p) (and_right (all_second_keywords p) (all_third_keywords p && (all_last_keywords p && all_signs p)) (and_right (all_first_keywords p) (all_second_keywords p && (all_third_keywords p && (all_last_keywords p && all_signs p))) (and_right (all_words p) (all_first_keywords p && (all_second_keywords p && (all_third_keywords p && (all_last_keywords p && all_signs p)))) (and_right (all_numbers p) (all_words p && (all_first_keywords p && (all_second_keywords p && (all_third_keywords p && (all_last_keywords p && all_signs p))))) is)))))

in_signs : (p : Class → Bool) → for_all p ≡ true → all_signs p ≡ true
in_signs p is = and_right (all_last_keywords p) (all_signs p) (and_right (all_third_keywords p) (all_last_keywords p && all_signs p) (and_right (all_second_keywords p) (all_third_keywords p && (all_last_keywords p && all_signs p)) (and_right (all_first_keywords p) (all_second_keywords p && (all_third_keywords p && (all_last_keywords p && all_signs p))) (and_right (all_words p) (all_first_keywords p && (all_second_keywords p && (all_third_keywords p && (all_last_keywords p && all_signs p)))) (and_right (all_numbers p) (all_words p && (all_first_keywords p && (all_second_keywords p && (all_third_keywords p && (all_last_keywords p && all_signs p))))) is)))))

-- what holds of all classes holds of each
pub at_each : (p : Class → Bool) → for_all p ≡ true → (k : Class) → p k ≡ true
at_each p so c.Unsigned = let is = in_numbers p so in and_left (p c.Unsigned) (p c.Signed && p c.Real) is
at_each p so c.Signed = let is = in_numbers p so in and_left (p c.Signed) (p c.Real) (and_right (p c.Unsigned) (p c.Signed && p c.Real) is)
at_each p so c.Real = let is = in_numbers p so in and_right (p c.Signed) (p c.Real) (and_right (p c.Unsigned) (p c.Signed && p c.Real) is)
at_each p so c.Text = let is = in_words p so in and_left (p c.Text) (p c.Name && (p c.Word && (p c.Count && (p c.PropCount && p c.Timestamp)))) is
at_each p so c.Name = let is = in_words p so in and_left (p c.Name) (p c.Word && (p c.Count && (p c.PropCount && p c.Timestamp))) (and_right (p c.Text) (p c.Name && (p c.Word && (p c.Count && (p c.PropCount && p c.Timestamp)))) is)
at_each p so c.Word = let is = in_words p so in and_left (p c.Word) (p c.Count && (p c.PropCount && p c.Timestamp)) (and_right (p c.Name) (p c.Word && (p c.Count && (p c.PropCount && p c.Timestamp))) (and_right (p c.Text) (p c.Name && (p c.Word && (p c.Count && (p c.PropCount && p c.Timestamp)))) is))
at_each p so c.Count = let is = in_words p so in and_left (p c.Count) (p c.PropCount && p c.Timestamp) (and_right (p c.Word) (p c.Count && (p c.PropCount && p c.Timestamp)) (and_right (p c.Name) (p c.Word && (p c.Count && (p c.PropCount && p c.Timestamp))) (and_right (p c.Text) (p c.Name && (p c.Word && (p c.Count && (p c.PropCount && p c.Timestamp)))) is)))
at_each p so c.PropCount = let is = in_words p so in and_left (p c.PropCount) (p c.Timestamp) (and_right (p c.Count) (p c.PropCount && p c.Timestamp) (and_right (p c.Word) (p c.Count && (p c.PropCount && p c.Timestamp)) (and_right (p c.Name) (p c.Word && (p c.Count && (p c.PropCount && p c.Timestamp))) (and_right (p c.Text) (p c.Name && (p c.Word && (p c.Count && (p c.PropCount && p c.Timestamp)))) is))))
at_each p so c.Timestamp = let is = in_words p so in and_right (p c.PropCount) (p c.Timestamp) (and_right (p c.Count) (p c.PropCount && p c.Timestamp) (and_right (p c.Word) (p c.Count && (p c.PropCount && p c.Timestamp)) (and_right (p c.Name) (p c.Word && (p c.Count && (p c.PropCount && p c.Timestamp))) (and_right (p c.Text) (p c.Name && (p c.Word && (p c.Count && (p c.PropCount && p c.Timestamp)))) is))))
at_each p so c.Select = let is = in_first_keywords p so in and_left (p c.Select) (p c.Top && (p c.Distinct && (p c.All && (p c.Using && (p c.As && (p c.Into && p c.From)))))) is
at_each p so c.Top = let is = in_first_keywords p so in and_left (p c.Top) (p c.Distinct && (p c.All && (p c.Using && (p c.As && (p c.Into && p c.From))))) (and_right (p c.Select) (p c.Top && (p c.Distinct && (p c.All && (p c.Using && (p c.As && (p c.Into && p c.From)))))) is)
at_each p so c.Distinct = let is = in_first_keywords p so in and_left (p c.Distinct) (p c.All && (p c.Using && (p c.As && (p c.Into && p c.From)))) (and_right (p c.Top) (p c.Distinct && (p c.All && (p c.Using && (p c.As && (p c.Into && p c.From))))) (and_right (p c.Select) (p c.Top && (p c.Distinct && (p c.All && (p c.Using && (p c.As && (p c.Into && p c.From)))))) is))
at_each p so c.All = let is = in_first_keywords p so in and_left (p c.All) (p c.Using && (p c.As && (p c.Into && p c.From))) (and_right (p c.Distinct) (p c.All && (p c.Using && (p c.As && (p c.Into && p c.From)))) (and_right (p c.Top) (p c.Distinct && (p c.All && (p c.Using && (p c.As && (p c.Into && p c.From))))) (and_right (p c.Select) (p c.Top && (p c.Distinct && (p c.All && (p c.Using && (p c.As && (p c.Into && p c.From)))))) is)))
at_each p so c.Using = let is = in_first_keywords p so in and_left (p c.Using) (p c.As && (p c.Into && p c.From)) (and_right (p c.All) (p c.Using && (p c.As && (p c.Into && p c.From))) (and_right (p c.Distinct) (p c.All && (p c.Using && (p c.As && (p c.Into && p c.From)))) (and_right (p c.Top) (p c.Distinct && (p c.All && (p c.Using && (p c.As && (p c.Into && p c.From))))) (and_right (p c.Select) (p c.Top && (p c.Distinct && (p c.All && (p c.Using && (p c.As && (p c.Into && p c.From)))))) is))))
at_each p so c.As = let is = in_first_keywords p so in and_left (p c.As) (p c.Into && p c.From) (and_right (p c.Using) (p c.As && (p c.Into && p c.From)) (and_right (p c.All) (p c.Using && (p c.As && (p c.Into && p c.From))) (and_right (p c.Distinct) (p c.All && (p c.Using && (p c.As && (p c.Into && p c.From)))) (and_right (p c.Top) (p c.Distinct && (p c.All && (p c.Using && (p c.As && (p c.Into && p c.From))))) (and_right (p c.Select) (p c.Top && (p c.Distinct && (p c.All && (p c.Using && (p c.As && (p c.Into && p c.From)))))) is)))))
at_each p so c.Into = let is = in_first_keywords p so in and_left (p c.Into) (p c.From) (and_right (p c.As) (p c.Into && p c.From) (and_right (p c.Using) (p c.As && (p c.Into && p c.From)) (and_right (p c.All) (p c.Using && (p c.As && (p c.Into && p c.From))) (and_right (p c.Distinct) (p c.All && (p c.Using && (p c.As && (p c.Into && p c.From)))) (and_right (p c.Top) (p c.Distinct && (p c.All && (p c.Using && (p c.As && (p c.Into && p c.From))))) (and_right (p c.Select) (p c.Top && (p c.Distinct && (p c.All && (p c.Using && (p c.As && (p c.Into && p c.From)))))) is))))))
at_each p so c.From = let is = in_first_keywords p so in and_right (p c.Into) (p c.From) (and_right (p c.As) (p c.Into && p c.From) (and_right (p c.Using) (p c.As && (p c.Into && p c.From)) (and_right (p c.All) (p c.Using && (p c.As && (p c.Into && p c.From))) (and_right (p c.Distinct) (p c.All && (p c.Using && (p c.As && (p c.Into && p c.From)))) (and_right (p c.Top) (p c.Distinct && (p c.All && (p c.Using && (p c.As && (p c.Into && p c.From))))) (and_right (p c.Select) (p c.Top && (p c.Distinct && (p c.All && (p c.Using && (p c.As && (p c.Into && p c.From)))))) is))))))
at_each p so c.Where = let is = in_second_keywords p so in and_left (p c.Where) (p c.Group && (p c.By && (p c.With && (p c.Rollup && (p c.Having && (p c.Order && p c.Asc)))))) is
at_each p so c.Group = let is = in_second_keywords p so in and_left (p c.Group) (p c.By && (p c.With && (p c.Rollup && (p c.Having && (p c.Order && p c.Asc))))) (and_right (p c.Where) (p c.Group && (p c.By && (p c.With && (p c.Rollup && (p c.Having && (p c.Order && p c.Asc)))))) is)
at_each p so c.By = let is = in_second_keywords p so in and_left (p c.By) (p c.With && (p c.Rollup && (p c.Having && (p c.Order && p c.Asc)))) (and_right (p c.Group) (p c.By && (p c.With && (p c.Rollup && (p c.Having && (p c.Order && p c.Asc))))) (and_right (p c.Where) (p c.Group && (p c.By && (p c.With && (p c.Rollup && (p c.Having && (p c.Order && p c.Asc)))))) is))
at_each p so c.With = let is = in_second_keywords p so in and_left (p c.With) (p c.Rollup && (p c.Having && (p c.Order && p c.Asc))) (and_right (p c.By) (p c.With && (p c.Rollup && (p c.Having && (p c.Order && p c.Asc)))) (and_right (p c.Group) (p c.By && (p c.With && (p c.Rollup && (p c.Having && (p c.Order && p c.Asc))))) (and_right (p c.Where) (p c.Group && (p c.By && (p c.With && (p c.Rollup && (p c.Having && (p c.Order && p c.Asc)))))) is)))
at_each p so c.Rollup = let is = in_second_keywords p so in and_left (p c.Rollup) (p c.Having && (p c.Order && p c.Asc)) (and_right (p c.With) (p c.Rollup && (p c.Having && (p c.Order && p c.Asc))) (and_right (p c.By) (p c.With && (p c.Rollup && (p c.Having && (p c.Order && p c.Asc)))) (and_right (p c.Group) (p c.By && (p c.With && (p c.Rollup && (p c.Having && (p c.Order && p c.Asc))))) (and_right (p c.Where) (p c.Group && (p c.By && (p c.With && (p c.Rollup && (p c.Having && (p c.Order && p c.Asc)))))) is))))
at_each p so c.Having = let is = in_second_keywords p so in and_left (p c.Having) (p c.Order && p c.Asc) (and_right (p c.Rollup) (p c.Having && (p c.Order && p c.Asc)) (and_right (p c.With) (p c.Rollup && (p c.Having && (p c.Order && p c.Asc))) (and_right (p c.By) (p c.With && (p c.Rollup && (p c.Having && (p c.Order && p c.Asc)))) (and_right (p c.Group) (p c.By && (p c.With && (p c.Rollup && (p c.Having && (p c.Order && p c.Asc))))) (and_right (p c.Where) (p c.Group && (p c.By && (p c.With && (p c.Rollup && (p c.Having && (p c.Order && p c.Asc)))))) is)))))
at_each p so c.Order = let is = in_second_keywords p so in and_left (p c.Order) (p c.Asc) (and_right (p c.Having) (p c.Order && p c.Asc) (and_right (p c.Rollup) (p c.Having && (p c.Order && p c.Asc)) (and_right (p c.With) (p c.Rollup && (p c.Having && (p c.Order && p c.Asc))) (and_right (p c.By) (p c.With && (p c.Rollup && (p c.Having && (p c.Order && p c.Asc)))) (and_right (p c.Group) (p c.By && (p c.With && (p c.Rollup && (p c.Having && (p c.Order && p c.Asc))))) (and_right (p c.Where) (p c.Group && (p c.By && (p c.With && (p c.Rollup && (p c.Having && (p c.Order && p c.Asc)))))) is))))))
at_each p so c.Asc = let is = in_second_keywords p so in and_right (p c.Order) (p c.Asc) (and_right (p c.Having) (p c.Order && p c.Asc) (and_right (p c.Rollup) (p c.Having && (p c.Order && p c.Asc)) (and_right (p c.With) (p c.Rollup && (p c.Having && (p c.Order && p c.Asc))) (and_right (p c.By) (p c.With && (p c.Rollup && (p c.Having && (p c.Order && p c.Asc)))) (and_right (p c.Group) (p c.By && (p c.With && (p c.Rollup && (p c.Having && (p c.Order && p c.Asc))))) (and_right (p c.Where) (p c.Group && (p c.By && (p c.With && (p c.Rollup && (p c.Having && (p c.Order && p c.Asc)))))) is))))))
at_each p so c.Desc = let is = in_third_keywords p so in and_left (p c.Desc) (p c.And && (p c.Or && (p c.Not && (p c.Like && (p c.Between && (p c.In && p c.Is)))))) is
at_each p so c.And = let is = in_third_keywords p so in and_left (p c.And) (p c.Or && (p c.Not && (p c.Like && (p c.Between && (p c.In && p c.Is))))) (and_right (p c.Desc) (p c.And && (p c.Or && (p c.Not && (p c.Like && (p c.Between && (p c.In && p c.Is)))))) is)
at_each p so c.Or = let is = in_third_keywords p so in and_left (p c.Or) (p c.Not && (p c.Like && (p c.Between && (p c.In && p c.Is)))) (and_right (p c.And) (p c.Or && (p c.Not && (p c.Like && (p c.Between && (p c.In && p c.Is))))) (and_right (p c.Desc) (p c.And && (p c.Or && (p c.Not && (p c.Like && (p c.Between && (p c.In && p c.Is)))))) is))
at_each p so c.Not = let is = in_third_keywords p so in and_left (p c.Not) (p c.Like && (p c.Between && (p c.In && p c.Is))) (and_right (p c.Or) (p c.Not && (p c.Like && (p c.Between && (p c.In && p c.Is)))) (and_right (p c.And) (p c.Or && (p c.Not && (p c.Like && (p c.Between && (p c.In && p c.Is))))) (and_right (p c.Desc) (p c.And && (p c.Or && (p c.Not && (p c.Like && (p c.Between && (p c.In && p c.Is)))))) is)))
at_each p so c.Like = let is = in_third_keywords p so in and_left (p c.Like) (p c.Between && (p c.In && p c.Is)) (and_right (p c.Not) (p c.Like && (p c.Between && (p c.In && p c.Is))) (and_right (p c.Or) (p c.Not && (p c.Like && (p c.Between && (p c.In && p c.Is)))) (and_right (p c.And) (p c.Or && (p c.Not && (p c.Like && (p c.Between && (p c.In && p c.Is))))) (and_right (p c.Desc) (p c.And && (p c.Or && (p c.Not && (p c.Like && (p c.Between && (p c.In && p c.Is)))))) is))))
at_each p so c.Between = let is = in_third_keywords p so in and_left (p c.Between) (p c.In && p c.Is) (and_right (p c.Like) (p c.Between && (p c.In && p c.Is)) (and_right (p c.Not) (p c.Like && (p c.Between && (p c.In && p c.Is))) (and_right (p c.Or) (p c.Not && (p c.Like && (p c.Between && (p c.In && p c.Is)))) (and_right (p c.And) (p c.Or && (p c.Not && (p c.Like && (p c.Between && (p c.In && p c.Is))))) (and_right (p c.Desc) (p c.And && (p c.Or && (p c.Not && (p c.Like && (p c.Between && (p c.In && p c.Is)))))) is)))))
at_each p so c.In = let is = in_third_keywords p so in and_left (p c.In) (p c.Is) (and_right (p c.Between) (p c.In && p c.Is) (and_right (p c.Like) (p c.Between && (p c.In && p c.Is)) (and_right (p c.Not) (p c.Like && (p c.Between && (p c.In && p c.Is))) (and_right (p c.Or) (p c.Not && (p c.Like && (p c.Between && (p c.In && p c.Is)))) (and_right (p c.And) (p c.Or && (p c.Not && (p c.Like && (p c.Between && (p c.In && p c.Is))))) (and_right (p c.Desc) (p c.And && (p c.Or && (p c.Not && (p c.Like && (p c.Between && (p c.In && p c.Is)))))) is))))))
at_each p so c.Is = let is = in_third_keywords p so in and_right (p c.In) (p c.Is) (and_right (p c.Between) (p c.In && p c.Is) (and_right (p c.Like) (p c.Between && (p c.In && p c.Is)) (and_right (p c.Not) (p c.Like && (p c.Between && (p c.In && p c.Is))) (and_right (p c.Or) (p c.Not && (p c.Like && (p c.Between && (p c.In && p c.Is)))) (and_right (p c.And) (p c.Or && (p c.Not && (p c.Like && (p c.Between && (p c.In && p c.Is))))) (and_right (p c.Desc) (p c.And && (p c.Or && (p c.Not && (p c.Like && (p c.Between && (p c.In && p c.Is)))))) is))))))
at_each p so c.Null = let is = in_last_keywords p so in and_left (p c.Null) (p c.Case && (p c.When && (p c.Then && (p c.Else && (p c.End && p c.Open))))) is
at_each p so c.Case = let is = in_last_keywords p so in and_left (p c.Case) (p c.When && (p c.Then && (p c.Else && (p c.End && p c.Open)))) (and_right (p c.Null) (p c.Case && (p c.When && (p c.Then && (p c.Else && (p c.End && p c.Open))))) is)
at_each p so c.When = let is = in_last_keywords p so in and_left (p c.When) (p c.Then && (p c.Else && (p c.End && p c.Open))) (and_right (p c.Case) (p c.When && (p c.Then && (p c.Else && (p c.End && p c.Open)))) (and_right (p c.Null) (p c.Case && (p c.When && (p c.Then && (p c.Else && (p c.End && p c.Open))))) is))
at_each p so c.Then = let is = in_last_keywords p so in and_left (p c.Then) (p c.Else && (p c.End && p c.Open)) (and_right (p c.When) (p c.Then && (p c.Else && (p c.End && p c.Open))) (and_right (p c.Case) (p c.When && (p c.Then && (p c.Else && (p c.End && p c.Open)))) (and_right (p c.Null) (p c.Case && (p c.When && (p c.Then && (p c.Else && (p c.End && p c.Open))))) is)))
at_each p so c.Else = let is = in_last_keywords p so in and_left (p c.Else) (p c.End && p c.Open) (and_right (p c.Then) (p c.Else && (p c.End && p c.Open)) (and_right (p c.When) (p c.Then && (p c.Else && (p c.End && p c.Open))) (and_right (p c.Case) (p c.When && (p c.Then && (p c.Else && (p c.End && p c.Open)))) (and_right (p c.Null) (p c.Case && (p c.When && (p c.Then && (p c.Else && (p c.End && p c.Open))))) is))))
at_each p so c.End = let is = in_last_keywords p so in and_left (p c.End) (p c.Open) (and_right (p c.Else) (p c.End && p c.Open) (and_right (p c.Then) (p c.Else && (p c.End && p c.Open)) (and_right (p c.When) (p c.Then && (p c.Else && (p c.End && p c.Open))) (and_right (p c.Case) (p c.When && (p c.Then && (p c.Else && (p c.End && p c.Open)))) (and_right (p c.Null) (p c.Case && (p c.When && (p c.Then && (p c.Else && (p c.End && p c.Open))))) is)))))
at_each p so c.Open = let is = in_last_keywords p so in and_right (p c.End) (p c.Open) (and_right (p c.Else) (p c.End && p c.Open) (and_right (p c.Then) (p c.Else && (p c.End && p c.Open)) (and_right (p c.When) (p c.Then && (p c.Else && (p c.End && p c.Open))) (and_right (p c.Case) (p c.When && (p c.Then && (p c.Else && (p c.End && p c.Open)))) (and_right (p c.Null) (p c.Case && (p c.When && (p c.Then && (p c.Else && (p c.End && p c.Open))))) is)))))
at_each p so c.Close = let is = in_signs p so in and_left (p c.Close) (p c.Comma && (p c.Semicolon && (p c.Star && p c.Compares))) is
at_each p so c.Comma = let is = in_signs p so in and_left (p c.Comma) (p c.Semicolon && (p c.Star && p c.Compares)) (and_right (p c.Close) (p c.Comma && (p c.Semicolon && (p c.Star && p c.Compares))) is)
at_each p so c.Semicolon = let is = in_signs p so in and_left (p c.Semicolon) (p c.Star && p c.Compares) (and_right (p c.Comma) (p c.Semicolon && (p c.Star && p c.Compares)) (and_right (p c.Close) (p c.Comma && (p c.Semicolon && (p c.Star && p c.Compares))) is))
at_each p so c.Star = let is = in_signs p so in and_left (p c.Star) (p c.Compares) (and_right (p c.Semicolon) (p c.Star && p c.Compares) (and_right (p c.Comma) (p c.Semicolon && (p c.Star && p c.Compares)) (and_right (p c.Close) (p c.Comma && (p c.Semicolon && (p c.Star && p c.Compares))) is)))
at_each p so c.Compares = let is = in_signs p so in and_right (p c.Star) (p c.Compares) (and_right (p c.Semicolon) (p c.Star && p c.Compares) (and_right (p c.Comma) (p c.Semicolon && (p c.Star && p c.Compares)) (and_right (p c.Close) (p c.Comma && (p c.Semicolon && (p c.Star && p c.Compares))) is)))

both : (a b : Bool) → a ≡ true → b ≡ true → (a && b) ≡ true
both true b one two = two
both false b one two = one

make_numbers : (p : Class → Bool) → ((k : Class) → p k ≡ true) → all_numbers p ≡ true
make_numbers p is = both _ _ (is c.Unsigned) (both _ _ (is c.Signed) (is c.Real))

make_words : (p : Class → Bool) → ((k : Class) → p k ≡ true) → all_words p ≡ true
make_words p is = both _ _ (is c.Text) (both _ _ (is c.Name) (both _ _ (is c.Word) (both _ _ (is c.Count) (both _ _ (is c.PropCount) (is c.Timestamp)))))

make_first_keywords : (p : Class → Bool) → ((k : Class) → p k ≡ true) → all_first_keywords p ≡ true
make_first_keywords p is = both _ _ (is c.Select) (both _ _ (is c.Top) (both _ _ (is c.Distinct) (both _ _ (is c.All) (both _ _ (is c.Using) (both _ _ (is c.As) (both _ _ (is c.Into) (is c.From)))))))

make_second_keywords : (p : Class → Bool) → ((k : Class) → p k ≡ true) → all_second_keywords p ≡ true
make_second_keywords p is = both _ _ (is c.Where) (both _ _ (is c.Group) (both _ _ (is c.By) (both _ _ (is c.With) (both _ _ (is c.Rollup) (both _ _ (is c.Having) (both _ _ (is c.Order) (is c.Asc)))))))

make_third_keywords : (p : Class → Bool) → ((k : Class) → p k ≡ true) → all_third_keywords p ≡ true
make_third_keywords p is = both _ _ (is c.Desc) (both _ _ (is c.And) (both _ _ (is c.Or) (both _ _ (is c.Not) (both _ _ (is c.Like) (both _ _ (is c.Between) (both _ _ (is c.In) (is c.Is)))))))

make_last_keywords : (p : Class → Bool) → ((k : Class) → p k ≡ true) → all_last_keywords p ≡ true
make_last_keywords p is = both _ _ (is c.Null) (both _ _ (is c.Case) (both _ _ (is c.When) (both _ _ (is c.Then) (both _ _ (is c.Else) (both _ _ (is c.End) (is c.Open))))))

make_signs : (p : Class → Bool) → ((k : Class) → p k ≡ true) → all_signs p ≡ true
make_signs p is = both _ _ (is c.Close) (both _ _ (is c.Comma) (both _ _ (is c.Semicolon) (both _ _ (is c.Star) (is c.Compares))))

-- and what holds of each holds of all
pub all_by : (p : Class → Bool) → ((k : Class) → p k ≡ true) → for_all p ≡ true
all_by p is = both _ _ (make_numbers p is) (both _ _ (make_words p is) (both _ _ (make_first_keywords p is) (both _ _ (make_second_keywords p is) (both _ _ (make_third_keywords p is) (both _ _ (make_last_keywords p is) (make_signs p is))))))

-- a class with the property
pub record One (p : Class → Bool) : Type 0 where
  pub class : Class
  pub holds : p class ≡ true

one_by : (p : Class → Bool) (k : Class) (rest x : Bool) → p k ≡ x → (rest ≡ true → One p) → (x || rest) ≡ true → One p
one_by p k rest true is other so = record { class = k; holds = is }
one_by p k rest false is other so = other so

one_first : (p : Class → Bool) (k : Class) (rest : Bool) → (rest ≡ true → One p) → (p k || rest) ≡ true → One p
one_first p k rest other is = one_by p k rest (p k) refl other is

either_group : (p : Class → Bool) (some rest : Bool) → (some ≡ true → One p) → (rest ≡ true → One p) → (some || rest) ≡ true → One p
either_group p true rest one other is = one refl
either_group p false rest one other is = other is

one_of_numbers : (p : Class → Bool) → some_numbers p ≡ true → One p
one_of_numbers p = one_first p c.Unsigned _ (one_first p c.Signed _ (λ is. record { class = c.Real; holds = is }))

one_of_words : (p : Class → Bool) → some_words p ≡ true → One p
one_of_words p = one_first p c.Text _ (one_first p c.Name _ (one_first p c.Word _ (one_first p c.Count _ (one_first p c.PropCount _ (λ is. record { class = c.Timestamp; holds = is })))))

one_of_first_keywords : (p : Class → Bool) → some_first_keywords p ≡ true → One p
one_of_first_keywords p = one_first p c.Select _ (one_first p c.Top _ (one_first p c.Distinct _ (one_first p c.All _ (one_first p c.Using _ (one_first p c.As _ (one_first p c.Into _ (λ is. record { class = c.From; holds = is })))))))

one_of_second_keywords : (p : Class → Bool) → some_second_keywords p ≡ true → One p
one_of_second_keywords p = one_first p c.Where _ (one_first p c.Group _ (one_first p c.By _ (one_first p c.With _ (one_first p c.Rollup _ (one_first p c.Having _ (one_first p c.Order _ (λ is. record { class = c.Asc; holds = is })))))))

one_of_third_keywords : (p : Class → Bool) → some_third_keywords p ≡ true → One p
one_of_third_keywords p = one_first p c.Desc _ (one_first p c.And _ (one_first p c.Or _ (one_first p c.Not _ (one_first p c.Like _ (one_first p c.Between _ (one_first p c.In _ (λ is. record { class = c.Is; holds = is })))))))

one_of_last_keywords : (p : Class → Bool) → some_last_keywords p ≡ true → One p
one_of_last_keywords p = one_first p c.Null _ (one_first p c.Case _ (one_first p c.When _ (one_first p c.Then _ (one_first p c.Else _ (one_first p c.End _ (λ is. record { class = c.Open; holds = is }))))))

one_of_signs : (p : Class → Bool) → some_signs p ≡ true → One p
one_of_signs p = one_first p c.Close _ (one_first p c.Comma _ (one_first p c.Semicolon _ (one_first p c.Star _ (λ is. record { class = c.Compares; holds = is }))))

-- where some class has a property, one of them is found
pub one_of : (p : Class → Bool) → for_some p ≡ true → One p
one_of p = either_group p _ _ (one_of_numbers p) (either_group p _ _ (one_of_words p) (either_group p _ _ (one_of_first_keywords p) (either_group p _ _ (one_of_second_keywords p) (either_group p _ _ (one_of_third_keywords p) (either_group p _ _ (one_of_last_keywords p) (one_of_signs p))))))

pub same_class : (k : Class) → is_a k k ≡ true
same_class c.Unsigned = refl
same_class c.Signed = refl
same_class c.Real = refl
same_class c.Text = refl
same_class c.Name = refl
same_class c.Word = refl
same_class c.Count = refl
same_class c.PropCount = refl
same_class c.Timestamp = refl
same_class c.Select = refl
same_class c.Top = refl
same_class c.Distinct = refl
same_class c.All = refl
same_class c.Using = refl
same_class c.As = refl
same_class c.Into = refl
same_class c.From = refl
same_class c.Where = refl
same_class c.Group = refl
same_class c.By = refl
same_class c.With = refl
same_class c.Rollup = refl
same_class c.Having = refl
same_class c.Order = refl
same_class c.Asc = refl
same_class c.Desc = refl
same_class c.And = refl
same_class c.Or = refl
same_class c.Not = refl
same_class c.Like = refl
same_class c.Between = refl
same_class c.In = refl
same_class c.Is = refl
same_class c.Null = refl
same_class c.Case = refl
same_class c.When = refl
same_class c.Then = refl
same_class c.Else = refl
same_class c.End = refl
same_class c.Open = refl
same_class c.Close = refl
same_class c.Comma = refl
same_class c.Semicolon = refl
same_class c.Star = refl
same_class c.Compares = refl

pub some_class : (k : Class) → for_some (is_a k) ≡ true
some_class c.Unsigned = refl
some_class c.Signed = refl
some_class c.Real = refl
some_class c.Text = refl
some_class c.Name = refl
some_class c.Word = refl
some_class c.Count = refl
some_class c.PropCount = refl
some_class c.Timestamp = refl
some_class c.Select = refl
some_class c.Top = refl
some_class c.Distinct = refl
some_class c.All = refl
some_class c.Using = refl
some_class c.As = refl
some_class c.Into = refl
some_class c.From = refl
some_class c.Where = refl
some_class c.Group = refl
some_class c.By = refl
some_class c.With = refl
some_class c.Rollup = refl
some_class c.Having = refl
some_class c.Order = refl
some_class c.Asc = refl
some_class c.Desc = refl
some_class c.And = refl
some_class c.Or = refl
some_class c.Not = refl
some_class c.Like = refl
some_class c.Between = refl
some_class c.In = refl
some_class c.Is = refl
some_class c.Null = refl
some_class c.Case = refl
some_class c.When = refl
some_class c.Then = refl
some_class c.Else = refl
some_class c.End = refl
some_class c.Open = refl
some_class c.Close = refl
some_class c.Comma = refl
some_class c.Semicolon = refl
some_class c.Star = refl
some_class c.Compares = refl
