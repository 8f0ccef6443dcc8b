-- SQL's three-valued truth, as tables.
use Rattle.lp_values.specs.declared.truth.Truth.{Truth}
use Rattle.lp_values.specs.declared.truth.Truth.TheVariants.{Yes, No, Unknown}

abbrev pub both : Truth → Truth → Truth
both Yes Yes = Yes
both Yes No = No
both Yes Unknown = Unknown
both No Yes = No
both No No = No
both No Unknown = No
both Unknown Yes = Unknown
both Unknown No = No
both Unknown Unknown = Unknown

abbrev pub either : Truth → Truth → Truth
either Yes Yes = Yes
either Yes No = Yes
either Yes Unknown = Yes
either No Yes = Yes
either No No = No
either No Unknown = Unknown
either Unknown Yes = Yes
either Unknown No = Unknown
either Unknown Unknown = Unknown

abbrev pub opposite : Truth → Truth
opposite Yes = No
opposite No = Yes
opposite Unknown = Unknown
