pub mod ReusableShared
