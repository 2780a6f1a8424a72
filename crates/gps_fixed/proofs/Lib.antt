pub mod CivilLaws
pub mod IsoLaws
pub mod NumeralLaws
pub mod NumeralTheorem
pub mod RatioLaws
pub mod ScaledTheorem
pub mod TextLaws
pub mod WholeLaws
