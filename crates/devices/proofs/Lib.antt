pub mod HostBitLemmas
