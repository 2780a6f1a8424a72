-- The items of a chain, in order. Source: this project's own.
use Rattle.std.specs.Prelude.{List, [], ◌∷◌, ◌++◌}
use Rattle.ghost_list.specs.declared.chain.Chain.{Chain}
use Rattle.ghost_list.specs.declared.chain.Chain.TheVariants.{Nothing, More', Both'}

abbrev pub items_of : {T : Type 0} → Chain T → List T
items_of Nothing = []
items_of (More' p before item) = items_of before ++ (item.value ∷ [])
items_of (Both' p front q back) = items_of front ++ items_of back
