mod ListLemmas
mod NamedValues
mod EntryLemmas
mod ValueForms
mod ValueMeanings
mod LineMeanings
mod MadeLemmas
mod SaidLemmas
