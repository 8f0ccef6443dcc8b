-- How the logs of a run are read.
use Rattle.std.proofs.Common.{◌≡◌, ℕ, [], None, refl, subst, sym, inl, inr, arith}
use Rattle.command_words.specs.declared.formats.InputFormat.{InputFormat}
use Rattle.command_words.specs.declared.formats.InputFormat.TheVariants as I
use Rattle.command_words.specs.declared.spec.Spec.{Spec}
use Rattle.command_words.specs.Separators.{IsSeparator}
use Rattle.delimited_input.specs.declared.options.DelimitedOptions.{DelimitedOptions}
use Rattle.delimited_input.specs.Lines.{delimited_lines}
use Rattle.delimited_input.specs.Separators.{IsNoSeparator}
use Rattle.input_tables.proofs.Formats.{lines_start as table_start}
use Rattle.execution.specs.declared.formats.LogFormat.{LogFormat}
use Rattle.execution.specs.declared.formats.LogFormat.TheVariants as F
use Rattle.execution.specs.Formats.{csv_options, format_of, lines_in, tsv_options}

-- no columns are in force before the first line
pub lines_start : (format : LogFormat) → (lines_in format).columns_after [] ≡ None
unfolding delimited_lines
lines_start (F.Tabled format) = table_start format
lines_start (F.Sampled options limit) = refl

separates : (separator : ℕ) → IsSeparator separator → IsNoSeparator separator → ⊥
separates separator (inl tab) (inl cr) = omega arith
separates separator (inl tab) (inr (inl lf)) = omega arith
separates separator (inl tab) (inr (inr (inl quote))) = omega arith
separates separator (inl tab) (inr (inr (inr high))) = omega arith
separates separator (inr (low, high, other)) (inl cr) = omega arith
separates separator (inr (low, high, other)) (inr (inl lf)) = omega arith
separates separator (inr (low, high, other)) (inr (inr (inl quote))) = omega arith
separates separator (inr (low, high, other)) (inr (inr (inr above))) = omega arith

sampled_by : (options given : DelimitedOptions) (limit many : ℕ) → F.Sampled options limit ≡ F.Sampled given many → options ≡ given
sampled_by options given limit many same = cc

comma : IsNoSeparator 44 → ⊥
comma (inl cr) = omega arith
comma (inr (inl lf)) = omega arith
comma (inr (inr (inl quote))) = omega arith
comma (inr (inr (inr above))) = omega arith

-- the separator of a run can part fields
pub separated : (spec : Spec) (input : InputFormat) (options : DelimitedOptions) (limit : ℕ) → IsSeparator spec.separator → format_of spec input ≡ F.Sampled options limit → IsNoSeparator options.separator → ⊥
separated spec I.IisW3c options limit range same = absurd (cc)
separated spec I.Ncsa options limit range same = absurd (cc)
separated spec I.Csv options limit range same = λ refused.
    comma (subst (λ (o : DelimitedOptions). IsNoSeparator o.separator) (sym (sampled_by (csv_options spec) options _ limit same)) refused)
separated spec I.Tsv options limit range same = λ refused.
    separates spec.separator range (subst (λ (o : DelimitedOptions). IsNoSeparator o.separator) (sym (sampled_by (tsv_options spec) options _ limit same)) refused)
separated spec I.TextLine options limit range same = absurd (cc)
separated spec I.TextWord options limit range same = absurd (cc)
