pub mod SourceExchanges
