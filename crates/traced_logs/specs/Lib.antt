pub mod TracedLogs
